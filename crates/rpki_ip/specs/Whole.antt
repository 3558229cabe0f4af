-- Sets of whole IPv4 addresses. The numbers of the IPv4 address a are those from a * 2 ^ 96 to a * 2 ^ 96 + 2 ^ 96 - 1.
use Rattle.std.specs.Prelude.{◌≡◌, ℕ, ◌+◌, ◌/◌, ◌%◌, ◌^◌}

-- if the set has a number, it has every number of the same IPv4 address
abbrev pub IsWhole : (ℕ → Type 0) → Type 0
IsWhole S = (m n : ℕ) → m / 2 ^ 96 ≡ n / 2 ^ 96 → S m → S n

-- the least number is the first number of an IPv4 address, and the greatest is the last number of an IPv4 address
pub record HasWholeBounds (b : ℕ × ℕ) : Type 0 where
  pub begins : b.0 % 2 ^ 96 ≡ 0
  pub ends : (b.1 + 1) % 2 ^ 96 ≡ 0
