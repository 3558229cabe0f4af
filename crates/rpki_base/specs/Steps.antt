-- One step of a traversal of two ascending lists, for the proofs of set operations.
use Rattle.std.specs.Prelude.{◌≡◌, ℕ, ◌+◌, ◌<◌, List, length, Bool}
use Rattle.rpki_base.specs.declared.small_set.walk.Wanted.{Wanted}
use Rattle.rpki_base.specs.declared.small_set.walk.Side.{Side}
use Rattle.rpki_base.specs.declared.small_set.walk.Side.TheVariants.{Left, Both, Right}
use Rattle.rpki_base.specs.Walks.{kept_items, walk}

-- whether the numbers of this side are wanted
abbrev pub chosen : Wanted → Side → Bool
chosen wanted Left = wanted.left
chosen wanted Both = wanted.both
chosen wanted Right = wanted.right

-- n is first in a traversal of both lists, for any wanted sides, and next_left and next_right are left
pub record IsStep (left right : List ℕ) (side : Side) (n : ℕ) (next_left next_right : List ℕ) : Type 0 where
  pub gives : (wanted : Wanted)
      → walk wanted left right ≡ kept_items (chosen wanted side) n (walk wanted next_left next_right)
  pub fewer : length next_left + length next_right < length left + length right
