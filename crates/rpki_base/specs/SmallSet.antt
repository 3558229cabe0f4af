-- Small sets of AS numbers, as in the Rust crate `rpki` 0.20.1: ascending lists without duplicates.
use Rattle.std.specs.Prelude.{ℕ, ◌⊎◌, ◌↔◌, List, Contains}
use Rattle.std.specs.List.Sorted.{IsStrictlyIncreasing}

-- the list is a set: each number is below the next, so no number occurs twice
abbrev pub IsSmallSet : List ℕ → Type 0
IsSmallSet numbers = IsStrictlyIncreasing numbers

-- The list is the set of the numbers for which S holds: ascending, and each of them once.
pub record IsSmallSetOf (S : ℕ → Type 0) (numbers : List ℕ) : Type 0 where
  pub ascending : IsSmallSet numbers
  pub members : (n : ℕ) → Contains numbers n ↔ S n

-- the number is in the first set and not in the second
abbrev pub IsInFirstAlone : List ℕ → List ℕ → ℕ → Type 0
IsInFirstAlone first second n = Contains first n × ¬ Contains second n

-- the number is in exactly one of the sets
abbrev pub IsInOne : List ℕ → List ℕ → ℕ → Type 0
IsInOne first second n = IsInFirstAlone first second n ⊎ IsInFirstAlone second first n

-- the number is in both sets
abbrev pub IsInBoth : List ℕ → List ℕ → ℕ → Type 0
IsInBoth first second n = Contains first n × Contains second n

-- the number is in one of the sets, or in both
abbrev pub IsInEither : List ℕ → List ℕ → ℕ → Type 0
IsInEither first second n = Contains first n ⊎ Contains second n
