-- Sets of numbers as lists: all their numbers, ascending, and their count.
use Rattle.std.specs.Prelude.{◌≡◌, ℕ, zero, suc, ◌+◌, ◌-◌, ◌<◌, ◌↔◌, List, [], ◌∷◌, length, AllPairs, Option, Some}
use Rattle.std.specs.Prelude.{None}
use Rattle.std.specs.List.{Contains, flat_map}
use Rattle.rpki_block.specs.Ranges.{RangeValue, range_bounds}
use Rattle.rpki_as_block.specs.Blocks.{as_bounds}
use Rattle.rpki_as_block.specs.declared.block.AsBlock.{AsBlock}

-- all numbers of S, ascending, each once
pub record IsListOf (S : ℕ → Type 0) (ns : List ℕ) : Type 0 where
  pub members : (n : ℕ) → Contains ns n ↔ S n
  pub ascending : AllPairs (λ m n. m < n) ns

-- S has k numbers
pub record IsSizeOf (S : ℕ → Type 0) (k : ℕ) : Type 0 where
  pub list : List ℕ
  pub is_list : IsListOf S list
  pub size : length list ≡ k

-- k numbers from a on
abbrev pub numbers_from : ℕ → ℕ → List ℕ
numbers_from zero a = []
numbers_from (suc k) a = a ∷ numbers_from k (a + 1)

-- the numbers from b.0 to b.1
unfoldable pub numbers_within : ℕ × ℕ → List ℕ
numbers_within b = numbers_from (b.1 + 1 - b.0) b.0

-- the numbers of a range, or no numbers if there is no range
abbrev pub numbers_left : Option RangeValue → List ℕ
numbers_left None = []
numbers_left (Some r) = numbers_within (range_bounds r)

-- the numbers of blocks, block by block
abbrev pub numbers_of : List AsBlock → List ℕ
numbers_of blocks = flat_map (λ x. numbers_within (as_bounds x)) blocks
