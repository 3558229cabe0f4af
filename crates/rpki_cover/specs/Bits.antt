-- The first bits of a number.
use Rattle.std.specs.Prelude.{ℕ, ◌-◌, ◌*◌, ◌/◌, ◌^◌}

-- the number of w bits with the bits after the first len cleared: the largest multiple of 2 ^ (w - len) that is at
-- most n
abbrev pub cleared : ℕ → ℕ → ℕ → ℕ
cleared w n len = n / 2 ^ (w - len) * 2 ^ (w - len)
