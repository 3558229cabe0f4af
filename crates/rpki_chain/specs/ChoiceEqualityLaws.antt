-- Lemmas: equality of resources is an equivalence if equality of what they list is one.
use Rattle.std.specs.Prelude.{◌≡◌, Bool, true}
use Rattle.std.proofs.Common.{refl}
use Rattle.std.specs.Cmp.{IsEquivalence, IsPartialEquivalence}
use Rattle.rpki_chain.specs.ChoiceEquality.{choice_eq}
use Rattle.rpki_chain.specs.declared.choice.ResourcesChoice.{ResourcesChoice}
use Rattle.rpki_chain.specs.declared.choice.ResourcesChoice.TheVariants.{Missing, Inherit, Blocks}

module _ {X : Type 0} (eq : X → X → Bool) where
  itself : ((x : X) → eq x x ≡ true) → (a : ResourcesChoice X) → choice_eq eq a a ≡ true
  itself one Missing = refl
  itself one Inherit = refl
  itself one (Blocks x) = one x

  symmetric : ((x y : X) → eq x y ≡ eq y x) → (a b : ResourcesChoice X) → choice_eq eq a b ≡ choice_eq eq b a
  symmetric turned Missing Missing = refl
  symmetric turned Missing Inherit = refl
  symmetric turned Missing (Blocks y) = refl
  symmetric turned Inherit Missing = refl
  symmetric turned Inherit Inherit = refl
  symmetric turned Inherit (Blocks y) = refl
  symmetric turned (Blocks x) Missing = refl
  symmetric turned (Blocks x) Inherit = refl
  symmetric turned (Blocks x) (Blocks y) = turned x y

  transitive : ((x y z : X) → eq x y ≡ true → eq y z ≡ true → eq x z ≡ true) → (a b c : ResourcesChoice X)
      → choice_eq eq a b ≡ true → choice_eq eq b c ≡ true → choice_eq eq a c ≡ true
  transitive through Missing Missing c p q = q
  transitive through Missing Inherit c p q = absurd cc
  transitive through Missing (Blocks y) c p q = absurd cc
  transitive through Inherit Missing c p q = absurd cc
  transitive through Inherit Inherit c p q = q
  transitive through Inherit (Blocks y) c p q = absurd cc
  transitive through (Blocks x) Missing c p q = absurd cc
  transitive through (Blocks x) Inherit c p q = absurd cc
  transitive through (Blocks x) (Blocks y) Missing p q = absurd cc
  transitive through (Blocks x) (Blocks y) Inherit p q = absurd cc
  transitive through (Blocks x) (Blocks y) (Blocks z) p q = through x y z p q

  alike : ((x y z : X) → eq x y ≡ true → eq x z ≡ eq y z) → (a b c : ResourcesChoice X) → choice_eq eq a b ≡ true
      → choice_eq eq a c ≡ choice_eq eq b c
  alike same Missing Missing c p = refl
  alike same Missing Inherit c p = absurd cc
  alike same Missing (Blocks y) c p = absurd cc
  alike same Inherit Missing c p = absurd cc
  alike same Inherit Inherit c p = refl
  alike same Inherit (Blocks y) c p = absurd cc
  alike same (Blocks x) Missing c p = absurd cc
  alike same (Blocks x) Inherit c p = absurd cc
  alike same (Blocks x) (Blocks y) Missing p = refl
  alike same (Blocks x) (Blocks y) Inherit p = refl
  alike same (Blocks x) (Blocks y) (Blocks z) p = same x y z p

  -- if equality of what is listed is a partial equivalence, so is equality of resources
  pub choice_per : IsPartialEquivalence eq → IsPartialEquivalence (choice_eq eq)
  choice_per laws = record { symm = symmetric laws.symm; trans = transitive laws.trans }

  -- if equality of what is listed is an equivalence, so is equality of resources
  pub choice_equiv : IsEquivalence eq → IsEquivalence (choice_eq eq)
  choice_equiv laws = record { refl = itself laws.refl; symm = symmetric laws.symm; congr = alike laws.congr }
