-- Outcomes of readers: a value or a fault.
use Rattle.std.proofs.Common.{None, Option, Some, arith, ◌≡◌, ◌⊎◌}
use Rattle.roa_vrps.proofs.Outcomes.{IsExact}
use Rattle.roa_slurm.specs.Steps.{FaultThen}

-- two steps, of which the value of the first is kept
pub exact_both : {A B E : Type 0} {Has : A → Type 0} {Other : B → Type 0} {Fails Wrong : E → Type 0}
    → IsExact Has Fails → IsExact Other Wrong
    → IsExact (λ a. Has a × ((b : B) × Other b)) (FaultThen Fails ((a : A) × Has a) Wrong)
exact_both first second = record {
  one = λ a b h k. first.one a b h.0 k.0;
  apart = λ a e h wrong. grind (arith, first.apart, second.apart);
  fault_one = λ d e h k. grind (arith, first.apart, first.fault_one, second.fault_one);
}

-- a value that is optional elsewhere, and here required
pub exact_some : {A E : Type 0} {Gives : Option A → Type 0} {Fails IsMissing : E → Type 0} → IsExact Gives Fails
    → ((e : E) → IsMissing e → Gives None) → ((d e : E) → IsMissing d → IsMissing e → d ≡ e)
    → IsExact (λ a. Gives (Some a)) (λ e. Fails e ⊎ IsMissing e)
exact_some optional none same = record {
  one = λ a b h k. let e = optional.one (Some a) (Some b) h k in cc;
  apart = λ a e h wrong. grind (arith, none, optional.apart, optional.one);
  fault_one = λ d e h k. grind (arith, none, optional.apart, optional.fault_one, same);
}

-- Fails holds of at most one fault
pub record IsOne {E : Type 0} (Fails : E → Type 0) : Type 0 where
  pub same : (d e : E) → Fails d → Fails e → d ≡ e

-- the first fault of a step and of later steps
pub then_one : {E : Type 0} {Fails Later : E → Type 0} {Passes : Type 0} → ((e : E) → Passes → Fails e → ⊥)
    → ((d e : E) → Fails d → Fails e → d ≡ e) → IsOne Later → IsOne (FaultThen Fails Passes Later)
then_one apart one later = record { same = λ d e h k. grind (arith, apart, later.same, one) }

-- the same, if the step finds a value
pub step_one : {A E : Type 0} {Has : A → Type 0} {Fails Later : E → Type 0} → IsExact Has Fails → IsOne Later
    → IsOne (FaultThen Fails ((a : A) × Has a) Later)
step_one step later = record { same = λ d e h k. grind (arith, later.same, step.apart, step.fault_one) }

-- the fault of the only t
pub one_of : {T E : Type 0} {Is : T → Type 0} {Fails : T → E → Type 0} → ((s t : T) → Is s → Is t → s ≡ t)
    → ((t : T) → IsOne (Fails t)) → IsOne (λ e. (t : T) × Is t × Fails t e)
one_of same each = record { same = λ d e h k. (each k.0).same d e (rw (same h.0 k.0 h.1 k.1) at h.2) k.2 }
