-- No list of blocks with the same cover is shorter than a chain.
use Rattle.rpki_chain_core.proofs.Common.{List, [], arith, get_or, le_refl, length, inl, inr, suc, sym, ℕ, ⊎_elim, ◌+◌}
use Rattle.rpki_chain_core.proofs.Common.{◌<◌, ◌↔◌, ◌∷◌, ◌≤◌, IsPermutation-remove, length_permutation, IsPermutation}
use Rattle.rpki_chain_core.proofs.Common.{Covers, IsChain, IsWithin, ◌⊎◌}
use Rattle.std.specs.List.{remove}
use Rattle.rpki_chain_core.proofs.Chains.{Covers-at, IsChainOf-itself}
use Rattle.rpki_chain_core.proofs.SortedBlocks.{Covers-permutation}
use Rattle.rpki_chain_core.proofs.UniqueChain.{Covers-cons, IsChain-tail}

module _ {B : Type 0} (f : B → ℕ × ℕ) (form : ℕ × ℕ → B) where
  -- each block of the chain needs one of its own
  needs_own : (xs ys : List B) → IsChain f form xs
      → ((k : ℕ) (d : B) → k < length xs → Covers f ys (f (get_or xs k d)).0)
      → ((k : ℕ) (d : B) → k < length xs → Covers f ys ((f (get_or xs k d)).1 + 1) → ⊥) → length xs ≤ length ys
  needs_own [] ys h lows gaps = omega arith
  needs_own (x ∷ xs) ys h lows gaps =
      let c : Covers f ys (f x).0 = lows 0 x (omega arith) in
      let y = c.1 in
      let zs = remove ys c.0 in
      let moved : IsPermutation ys (y ∷ zs) = IsPermutation-remove ys c.0 y c.2 (sym c.3) in
      let len = length_permutation ys (y ∷ zs) moved in
      let both : (n : ℕ) → Covers f ys n ↔ (IsWithin (f y) n ⊎ Covers f zs n) = λ n.
      let same = Covers-permutation f ys (y ∷ zs) n moved in
      let cons = Covers-cons f y zs n in
      (λ a. cons.0 (same.0 a), λ b. same.1 (cons.1 b)) in
      let rest = needs_own xs zs (IsChain-tail f form x xs h)
      (λ k d lt. ⊎_elim (λ w.
      let far : (f x).1 + 1 < (f (get_or xs k d)).0 = h.apart 0 (suc k) d (omega arith) (omega arith) in
      let near : (f y).0 ≤ (f x).1 + 1 = omega (arith, c.4, h.ordered 0 x) in
      absurd (gaps 0 x (omega arith) ((both _).1 (inl (near, omega (arith, w.1))))))
      (λ r. r) ((both _).0 (lows (suc k) d (omega arith))))
      (λ k d lt covered. gaps (suc k) d (omega arith) ((both _).1 (inr covered))) in
      omega arith

  -- so none with the chain's cover is shorter
  pub IsChain-shortest : (xs ys : List B) → IsChain f form xs → ((n : ℕ) → Covers f ys n ↔ Covers f xs n)
      → length xs ≤ length ys
  IsChain-shortest xs ys h same =
      let runs = (IsChainOf-itself f form xs h).runs in
      needs_own xs ys h
      (λ k d lt. (same _).1 (Covers-at f xs k _ d lt (le_refl _, h.ordered k d lt)))
      (λ k d lt covered. (runs k d lt).ends ((same _).0 covered))
