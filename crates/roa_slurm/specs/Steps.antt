-- The first fault of several steps.
use Rattle.std.specs.Prelude.{◌⊎◌}

-- the fault of a step, or, if the step passes, the fault of the steps after it
abbrev pub FaultThen : {E : Type 0} → (E → Type 0) → Type 0 → (E → Type 0) → E → Type 0
FaultThen Fails Passes Later fault = Fails fault ⊎ (Passes × Later fault)
