-- Equality of resources.
use Rattle.std.specs.Prelude.{Bool, true, false}
use Rattle.rpki_chain.specs.declared.choice.ResourcesChoice.{ResourcesChoice}
use Rattle.rpki_chain.specs.declared.choice.ResourcesChoice.TheVariants.{Missing, Inherit, Blocks}

-- whether both are missing, both are inherited, or both list equal values
abbrev pub choice_eq : {X : Type 0} → (X → X → Bool) → ResourcesChoice X → ResourcesChoice X → Bool
choice_eq eq Missing Missing = true
choice_eq eq Missing Inherit = false
choice_eq eq Missing (Blocks y) = false
choice_eq eq Inherit Missing = false
choice_eq eq Inherit Inherit = true
choice_eq eq Inherit (Blocks y) = false
choice_eq eq (Blocks x) Missing = false
choice_eq eq (Blocks x) Inherit = false
choice_eq eq (Blocks x) (Blocks y) = eq x y
