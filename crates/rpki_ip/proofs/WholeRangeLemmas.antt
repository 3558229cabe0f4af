-- Which ranges consist of whole IPv4 addresses.
use Rattle.rpki_ip.proofs.Common.{Bool, IsTrue, arith, ℕ, ◌*◌, ◌+◌, ◌-◌, ◌/◌, ◌^◌, ◌↔◌, ◌≤◌, IsWithin}
use Rattle.rpki_ip.specs.Whole.{IsWhole, HasWholeBounds}

-- between the first number of an address and the last one of an address lie whole addresses
pub whole_set : (b : ℕ × ℕ) → HasWholeBounds b → IsWhole (IsWithin b)
whole_set b whole m n same h = (omega (arith, h.0, h.1), omega (arith, h.0, h.1))

-- and between no others
pub whole_bounds : (b : ℕ × ℕ) → b.0 ≤ b.1 → IsWhole (IsWithin b) → HasWholeBounds b
whole_bounds b ordered whole =
    let first = (whole b.0 (b.0 / 2 ^ 96 * 2 ^ 96) (omega arith) (omega arith, ordered)).0 in
    let last = (whole b.1 (b.1 / 2 ^ 96 * 2 ^ 96 + (2 ^ 96 - 1)) (omega arith) (ordered, omega arith)).1 in
    record { begins = omega (arith, first); ends = omega (arith, last) }

-- so a test of the bounds is one of the set
pub whole_test : (b : ℕ × ℕ) (test : Bool) → b.0 ≤ b.1 → (IsTrue test ↔ HasWholeBounds b)
    → IsTrue test ↔ IsWhole (IsWithin b)
whole_test b test ordered same = (λ yes. whole_set b (same.0 yes), λ whole. same.1 (whole_bounds b ordered whole))
