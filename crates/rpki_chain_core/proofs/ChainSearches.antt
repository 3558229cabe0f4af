-- The first run that doesn't end before a number: a search finds it, and it tells what is covered from there on.
use Rattle.rpki_chain_core.proofs.Common.{IfSome, List, MatchOption, None, Option, Some, arith, get_or, length, subst}
use Rattle.rpki_chain_core.proofs.Common.{ℕ, ◌<◌, ◌↔◌, ◌≡◌, ◌≤◌, le_refl, cases_lt, Covers, HoldsBlock, IsChain, IsRun}
use Rattle.rpki_chain_core.proofs.Common.{IsRunFrom, IsWithin, numbers}
use Rattle.rpki_chain_core.proofs.Chains.{element_at, IsChainOf-itself}
use Rattle.rpki_chain_core.proofs.WalkSides.{lies_before}

module _ {B : Type 0} (f : B → ℕ × ℕ) (form : ℕ × ℕ → B) where
  -- a number behind one block is behind all earlier ones
  pub behind_all : (xs : List B) (i k n : ℕ) (d : B) → IsChain f form xs → i < length xs
      → ((e : B) → (f (get_or xs i e)).1 < n) → k ≤ i → (f (get_or xs k d)).1 < n
  behind_all xs i k n d h lt high le = grind (arith, cases_lt)

module _ {B : Type 0} (f : B → ℕ × ℕ) (form : ℕ × ℕ → B) (xs : List B) (n at : ℕ)
    (below : (k : ℕ) (d : B) → k < at → k < length xs → (f (get_or xs k d)).1 < n) where
  -- so a search finds the run that the first block is which doesn't, or that there is none
  pub first_found : {I : Type 0} (number : I → ℕ) (last : ℕ) (found : Option (I × I)) → IsChain f form xs
      → HoldsBlock f number last xs at found → IfSome found (λ b. n ≤ number b.1)
      → MatchOption found ((m : ℕ) → n ≤ m → Covers f xs m → ⊥) (λ b. IsRunFrom (Covers f xs) n (numbers number b))
  first_found number last None h here reaches = grind (arith)
  first_found number last (Some b) h here reaches = record {
    run = (
        let x = (element_at xs at here.0).0 in
        subst (IsRun (Covers f xs)) (here.1 x) ((IsChainOf-itself f form xs h).runs at x here.0));
    reaches = reaches;
    first = λ m from less c.
        let early = lies_before f form xs at (Some (numbers number b)) h (here.0, here.1) m c less in
        grind (arith);
  }

module _ {S : ℕ → Type 0} {n : ℕ} {b : ℕ × ℕ} (h : IsRunFrom S n b) where
  -- it has n, or nothing does
  pub has_number : b.0 ≤ n ↔ S n
  has_number = grind (arith, cases_lt, le_refl)

  -- it has all numbers from n to a greatest, or nothing has
  pub has_all : (c : ℕ × ℕ) → n ≡ c.0 → c.0 ≤ c.1 → ((b.0 ≤ c.0) × (c.1 ≤ b.1)) ↔ ((m : ℕ) → IsWithin c m → S m)
  has_all c is ordered = grind (arith, cases_lt, le_refl)

  -- it has some of them, or nothing has
  pub has_some : (c : ℕ × ℕ) → n ≡ c.0 → c.0 ≤ c.1 → b.0 ≤ c.1 ↔ ((m : ℕ) × IsWithin c m × S m)
  has_some c is ordered = grind (arith, cases_lt)
