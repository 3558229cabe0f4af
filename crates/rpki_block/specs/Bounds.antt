-- Bounds of blocks: a least and a greatest number.
-- `bounds` gives those of a block.
use Rattle.std.specs.Prelude.{◌≡◌, ℕ, ◌+◌, ◌≤◌}

-- n is not below the least and not above the greatest number
abbrev pub IsWithin : ℕ × ℕ → ℕ → Type 0
IsWithin b n = (b.0 ≤ n) × (n ≤ b.1)

-- the bounds have a number in common, or touch
abbrev pub IsBeside : ℕ × ℕ → ℕ × ℕ → Type 0
IsBeside b c = (b.0 ≤ c.1 + 1) × (c.0 ≤ b.1 + 1)

-- the block is in new form: it equals the one that `form` makes of its bounds
abbrev pub IsNew : {B : Type 0} → (B → ℕ × ℕ) → (ℕ × ℕ → B) → B → Type 0
IsNew bounds form x = x ≡ form (bounds x)
