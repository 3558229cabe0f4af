-- Claims: when two are one, and that a grammar of resources has those that are written by it.
use Rattle.rpki_chain.proofs.Common.{[], Covers-nil, arith, ℕ, ◌≡◌, Decides, same_runs, IsBlockSet, ListsBy, Claim}
use Rattle.rpki_chain.proofs.Common.{ResourcesChoice}
use Rattle.rpki_chain.specs.ChoiceEquality.{choice_eq}
use Rattle.rpki_chain.proofs.SetLemmas.{same_runs_decides}

-- whether two claims are one is what their comparison tells
pub claims_decide : (a b : Claim) → Decides (choice_eq same_runs a b) (a ≡ b)
claims_decide a b = grind (arith, same_runs_decides)

-- no runs are those of the empty set
pub empty_set : (first last : ℕ) → IsBlockSet first last []
empty_set first last = grind (arith, Covers-nil)

module _ {X Y : Type 0} (C : X → Y → Type 0) where
  -- what lists by a rule that says one thing at most is one
  pub lists_one : ((x : X) (a b : Y) → C x a → C x b → a ≡ b) → (choice : ResourcesChoice X) (a b : ResourcesChoice Y)
      → ListsBy C choice a → ListsBy C choice b → a ≡ b
  lists_one one choice a b p q = grind (arith, one)
