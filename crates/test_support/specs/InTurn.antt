-- Runs under an allocator that refuses one request for memory.
use Rattle.std.specs.Prelude.{◌≡◌, ℕ, ◌<◌}
use Rattle.test_support.specs.Plans.{plan_of}
use Rattle.test_support.specs.declared.plan.Plan.TheVariants.{RefuseOnly}
use Rattle.test_support.specs.declared.in_turn.Outcome.{Outcome}
use Rattle.test_support.specs.declared.Refusing.{Refusing}

-- The outcomes that a run under an allocator may have.
abbrev pub MayEnd : Type 0 → Type 1
MayEnd A = Refusing A → Outcome → Type 0

-- A run has this outcome under an allocator that refuses the request with this number and no other.
abbrev pub SomeRunEndsIn : {A : Type 0} → MayEnd A → Outcome → ℕ → Type 0
SomeRunEndsIn {A} may_end outcome number =
    (refusing : Refusing A) × (plan_of refusing ≡ RefuseOnly number) × may_end refusing outcome

-- A run under such an allocator has some outcome.
abbrev pub SomeRunEnds : {A : Type 0} → MayEnd A → ℕ → Type 0
SomeRunEnds may_end number = (outcome : Outcome) × SomeRunEndsIn may_end outcome number

-- For each smaller number there is a run with this outcome.
abbrev pub EachRunBefore : {A : Type 0} → MayEnd A → Outcome → ℕ → Type 0
EachRunBefore may_end outcome number = (earlier : ℕ) → earlier < number → SomeRunEndsIn may_end outcome earlier
