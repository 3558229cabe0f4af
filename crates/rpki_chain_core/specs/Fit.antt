-- The position of a block relative to the current block of another chain.
use Rattle.std.specs.Prelude.{ℕ, ◌<◌, ◌≤◌, ◌⊎◌}
use Rattle.rpki_chain_core.specs.declared.overhang.Fit.{Fit}
use Rattle.rpki_chain_core.specs.declared.overhang.Fit.TheVariants as fit

-- b has this position relative to c
abbrev pub IsFitIn : {I : Type 0} → (I → ℕ) → I × I → I × I → Fit → Type 0
IsFitIn number b c fit.Skip = number c.1 < number b.0
IsFitIn number b c fit.Inside = (number c.0 ≤ number b.0) × (number b.1 ≤ number c.1)
IsFitIn number b c fit.Beyond = (number b.0 ≤ number c.1) × ((number b.0 < number c.0) ⊎ (number c.1 < number b.1))
