-- The answers of tests.
use Rattle.std.proofs.Common.{◌≡◌, ℕ, ◌<◌, Bool, true, false, List, [], ◌∷◌, arith, inl, inr, length, lit<, refl}
use Rattle.std.proofs.Common.{subst, suc, sym, zero}
use Rattle.std.specs.Prelude.{◌↔◌, All, HoldsAt, IsTrue}
use Rattle.rpki_prefix.specs.MaxLen.{MaxLenValue}
use Rattle.rpki_prefix.specs.Values.{FamilyPrefix}
use Rattle.rpki_resources.specs.Triples.{Triple}
use Rattle.roa_check.specs.Inside.{IsPrefixInside}
use Rattle.pigyelund_c.specs.PairStatuses.{answer_number}
use Rattle.pigyelund_c.specs.SetHandles.{IsYesIf}

pub no_truth : IsTrue false → ⊥
no_truth same = grind (arith, same)

-- the number of an answer is 1 if it is yes
pub yes_if : (P : Type 0) (answer : Bool) (number : ℕ) → (IsTrue answer ↔ P) → number ≡ answer_number answer
    → IsYesIf P number
yes_if P true number holds same = inl (same, holds.0 refl)
yes_if P false number holds same = inr (same, λ p. no_truth (holds.1 p))

module _ (set : Triple) (p : FamilyPrefix) (e : MaxLenValue) (same : e.prefix ≡ p) where
  -- no prefix of a list of one is outside
  pub none_outside : All (λ e. IsPrefixInside set e.prefix) (e ∷ []) → IsPrefixInside set p
  none_outside all = subst (IsPrefixInside set) same (all 0 e (lit< tt))

  -- the prefix at an index of a list of one is outside
  pub one_outside : (at : ℕ) → at < length (e ∷ []) → HoldsAt (λ e. ¬ IsPrefixInside set e.prefix) (e ∷ []) at
      → IsPrefixInside set p → ⊥
  one_outside zero lt fails inside = fails e (subst (IsPrefixInside set) (sym same) inside)
  one_outside (suc at) lt fails inside = absurd (omega (arith, lt))
