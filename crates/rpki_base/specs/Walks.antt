-- The numbers that a traversal of two ascending lists gives, for the proofs of set operations. The contracts of these
-- operations state the numbers by membership.
use Rattle.std.specs.Prelude.{ℕ, List, [], ◌∷◌, Bool, true, false, nat_lt, if◌then◌else◌}
use Rattle.rpki_base.specs.declared.small_set.walk.Wanted.{Wanted}

-- the number before others, if it is wanted
abbrev pub kept_items : Bool → ℕ → List ℕ → List ℕ
kept_items wanted n others = if wanted then n ∷ others else others

-- all of these numbers, if they are wanted
abbrev pub all_kept : Bool → List ℕ → List ℕ
all_kept wanted numbers = if wanted then numbers else []

-- the wanted numbers of x, left and the last argument; `others` traverses left and a list
abbrev pub walk_step : Wanted → ℕ → List ℕ → (List ℕ → List ℕ) → List ℕ → List ℕ
walk_step wanted x left others [] = all_kept wanted.left (x ∷ left)
walk_step wanted x left others (y ∷ right) =
    if nat_lt x y then kept_items wanted.left x (others (y ∷ right))
    else (if nat_lt y x then kept_items wanted.right y (walk_step wanted x left others right)
    else kept_items wanted.both x (others right))

-- the wanted numbers of both lists, ascending
abbrev pub walk : Wanted → List ℕ → List ℕ → List ℕ
walk wanted [] right = all_kept wanted.right right
walk wanted (x ∷ left) right = walk_step wanted x left (walk wanted left) right

-- the numbers of a difference: those of the left list only
abbrev pub only_left : Wanted
only_left = record { left = true; both = false; right = false }

-- the numbers of a symmetric difference: those of exactly one list
abbrev pub only_one : Wanted
only_one = record { left = true; both = false; right = true }

-- the numbers of an intersection: those of both lists
abbrev pub only_both : Wanted
only_both = record { left = false; both = true; right = false }

-- the numbers of a union: those of at least one list
abbrev pub any_side : Wanted
any_side = record { left = true; both = true; right = true }
