-- What is asked of each kind, one after the other.
use Rattle.rpki_resources.proofs.Common.{Bool, IsTrue, arith, false, true, ◌↔◌, ◌≡◌, Runs, InEach, Triple}

-- where the first holds, both hold exactly where the second does
pub both : (v p q : Bool) (P Q : Type 0) → p ≡ true → v ≡ q → (IsTrue p ↔ P) → (IsTrue q ↔ Q) → IsTrue v ↔ (P × Q)
both v p q P Q holds same first second = grind (arith)

-- and where it doesn't, both don't
pub not_both : (v p : Bool) (P Q : Type 0) → p ≡ false → v ≡ p → (IsTrue p ↔ P) → IsTrue v ↔ (P × Q)
not_both v p P Q fails same first = grind (arith)

-- all three
pub each : (P : (Triple → Runs) → Type 0) (b : Bool) → IsTrue b ↔ ((P (λ t. t.asn) × P (λ t. t.ipv4)) × P (λ t. t.ipv6))
    → IsTrue b ↔ InEach P
each P b h = grind (arith)
