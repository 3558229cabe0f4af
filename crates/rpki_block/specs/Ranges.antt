-- Ranges of numbers: the model of a block that has one form.
use Rattle.std.specs.Prelude.{ℕ}

-- a least and a greatest number
pub record RangeValue : Type 0 where
  pub min : ℕ
  pub max : ℕ

-- the least and the greatest number of a range, as the bounds of a block
abbrev pub range_bounds : RangeValue → ℕ × ℕ
range_bounds r = (r.min, r.max)

-- the range of given bounds
abbrev pub new_range : ℕ × ℕ → RangeValue
new_range b = record { min = b.0; max = b.1 }
