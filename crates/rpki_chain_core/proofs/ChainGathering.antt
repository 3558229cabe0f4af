-- A chain of the first numbers of a set, and what comes behind it.
use Rattle.rpki_chain_core.proofs.Common.{List, [], arith, length, ℕ, ◌++◌, ◌+◌, ◌<◌, ◌↔◌, ◌∷◌, ◌≤◌, ◌⊎◌, le_refl}
use Rattle.rpki_chain_core.proofs.Common.{Covers, IsChain, IsChainOf, IsNew, IsWithin}
use Rattle.rpki_chain_core.proofs.Chains.{Covers-push, Covers-at, IsChain-push, IsChainOf-from}

-- `out` is the chain of those numbers of S that P holds of
pub record IsGathered {B : Type 0} (f : B → ℕ × ℕ) (form : ℕ × ℕ → B) (S P : ℕ → Type 0) (out : List B) : Type 0 where
  pub chain : IsChain f form out
  pub covers : (n : ℕ) → Covers f out n ↔ (S n × P n)

module _ {B : Type 0} {f : B → ℕ × ℕ} {form : ℕ × ℕ → B} {S P : ℕ → Type 0} {out : List B}
    (w : IsGathered f form S P out) where
  -- another property may say the same of the numbers of S
  pub gathered_as : (Q : ℕ → Type 0) → ((n : ℕ) → S n → P n ↔ Q n) → IsGathered f form S Q out
  gathered_as Q same = grind (arith)

  -- a block behind them, which doesn't touch them, adds its numbers
  pub gathered_push : (Q : ℕ → Type 0) (y : B) → IsNew f form y → (f y).0 ≤ (f y).1
      → ((n : ℕ) → Covers f out n → n + 1 < (f y).0) → ((n : ℕ) → IsWithin (f y) n → S n)
      → ((n : ℕ) → S n → (P n ⊎ IsWithin (f y) n) ↔ Q n) → IsGathered f form S Q (out ++ y ∷ [])
  gathered_push Q y new ordered apart within same = record {
    chain = IsChain-push f form out y w.chain ordered new (λ at d end.
        let lt : at < length out = omega arith in
        apart _ (Covers-at f out at _ d lt (w.chain.ordered at d lt, le_refl _)));
    covers = λ n. grind (arith, Covers-push f out y n, within n, same n, w.covers n);
  }

  -- all of S
  pub gathered_all : ((n : ℕ) → S n → P n) → IsChainOf f form S out
  gathered_all all = IsChainOf-from f form out S w.chain (λ n. grind (arith, w.covers n, all n))
