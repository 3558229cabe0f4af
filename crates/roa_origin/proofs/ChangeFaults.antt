-- The first place that is at fault, and what changes in order say of a place.
use Rattle.roa_origin.proofs.Common.{Any, Bool, IsTrue, List, arith, false, get_or, inl, inr, length, sym, true, ℕ, ◌+◌}
use Rattle.roa_origin.proofs.Common.{◌<◌, ◌↔◌, ◌∙◌, ◌≡◌, ◌⊎◌, cases_lt, get_or_default, IsLawfulVrp, Vrp, AreChangesOf}
use Rattle.roa_origin.proofs.Common.{IsDuplicateAnnouncement, IsOf, IsOfBefore, IsSentIn, IsUnknownWithdrawal, Change}
use Rattle.roa_origin.specs.Updates.{IsFirst}
use Rattle.roa_origin.proofs.ChangesAsListed.{is_sent, sent_before}

-- a test of the place n tells whether P holds there, and P holds at none before: so n is the first, or P holds at none
-- up to n
pub tested : {P : ℕ → Type 0} {Q : Type 0} {r : Bool} (n : ℕ) → IsTrue r ↔ Q → Q ↔ P n → ((k : ℕ) → k < n → ¬ P k)
    → (r ≡ true → IsFirst P n) × (r ≡ false → (k : ℕ) → k < n + 1 → ¬ P k)
tested n test is none = (
  (λ yes. record { here = is.0 (test.0 yes); none = none }),
  λ no k small h. grind (arith, cases_lt k n, none k, test, is),
)

-- the VRP read at a place, and the changes of the list
module _ {xs : List Vrp} {cs : List Change} (are : AreChangesOf xs cs) {p : Vrp} (lawful : IsLawfulVrp p)
    (n : ℕ) (inside : n < length xs) (is : p ≡ get_or xs n p) where
  here : (d : Vrp) → get_or xs n d ≡ p
  here d = get_or_default xs n d p inside ∙ sym is

  module _ {table : List Vrp} where
    pub unknown : ((¬ IsSentIn table p) ⊎ Any (IsOfBefore p n) cs) ↔ IsUnknownWithdrawal table xs n
    unknown = (
      (λ h. record { within = inside; unknown = λ d. rw (here d) (grind (arith, sent_before xs cs are p lawful n)) }),
      λ h. grind (arith, here p, h.unknown p, sent_before xs cs are p lawful n),
    )

    pub duplicate : {gone : List Vrp} {ds : List Change} → AreChangesOf gone ds
        → ((IsSentIn table p × ¬ Any (IsOf p) ds) ⊎ Any (IsOfBefore p n) cs) ↔ IsDuplicateAnnouncement table xs gone n
    duplicate {gone} {ds} these = (
      (λ h. record {
        within = inside;
        duplicate = λ d.
            let withdrawn = (is_sent gone ds these p lawful).1 in
            rw (here d) (grind (arith, sent_before xs cs are p lawful n));
      }),
      λ h.
          let duplicate = rw (here p) at (h.duplicate p) in
          elim duplicate [
            | inl new ↦ inl (new.0, λ change. new.1 ((is_sent gone ds these p lawful).0 change))
            | inr again ↦ inr ((sent_before xs cs are p lawful n).1 again)
          ],
    )
