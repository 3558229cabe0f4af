-- Equality by the bounds of blocks, one by one.
use Rattle.std.specs.Prelude.{ℕ, Bool, List}
use Rattle.std.specs.Cmp.Lexicographic.{pointwise}
use Rattle.rpki_block.specs.Equality.{is_same_pair}

-- whether two lists of bounds are the same, one by one
abbrev pub same_runs : List (ℕ × ℕ) → List (ℕ × ℕ) → Bool
same_runs a b = pointwise is_same_pair a b
