-- A set of numbers has exactly one chain.
use Rattle.rpki_chain_core.proofs.Common.{List, [], ap, arith, refl, suc, sym, ℕ, ⊎_elim, ◌+◌, ◌<◌, ◌↔◌, ◌∙◌, ◌∷◌, ◌≡◌}
use Rattle.rpki_chain_core.proofs.Common.{◌≤◌, ◌⊎◌, cases_lt, All-tail, Covers, IsChain, IsInside, IsNew, IsWithin}
use Rattle.rpki_chain_core.proofs.Chains.{Covers-nil}

module _ {B : Type 0} (f : B → ℕ × ℕ) where
  -- the first block's numbers are covered
  pub Covers-head : (x : B) (xs : List B) (n : ℕ) → IsWithin (f x) n → Covers f (x ∷ xs) n
  Covers-head x xs n w = (0, x, omega arith, refl, w)

  -- so are those of the rest
  pub Covers-tail : (x : B) (xs : List B) (n : ℕ) → Covers f xs n → Covers f (x ∷ xs) n
  Covers-tail x xs n (k, z, lt, e, w) = (suc k, z, omega arith, e, w)

  -- and no others
  pub Covers-cons_cases : (x : B) (xs : List B) (n : ℕ) → Covers f (x ∷ xs) n → IsWithin (f x) n ⊎ Covers f xs n
  Covers-cons_cases x xs n h = grind (arith)

  pub Covers-cons : (x : B) (xs : List B) (n : ℕ) → Covers f (x ∷ xs) n ↔ (IsWithin (f x) n ⊎ Covers f xs n)
  Covers-cons x xs n = (Covers-cons_cases x xs n, ⊎_elim (Covers-head x xs n) (Covers-tail x xs n))

  module _ (form : ℕ × ℕ → B) where
    -- the rest of a chain is a chain
    pub IsChain-tail : (x : B) (xs : List B) → IsChain f form (x ∷ xs) → IsChain f form xs
    IsChain-tail x xs h = record {
      ordered = All-tail (λ x. (f x).0 ≤ (f x).1) x xs h.ordered;
      apart = λ i j d below lt. h.apart (suc i) (suc j) d (omega arith) (omega arith);
      new_form = All-tail (λ x. IsNew f form x) x xs h.new_form;
    }

    -- what the rest of a chain covers lies beyond its first block
    pub Covers-beyond : (x : B) (xs : List B) (n : ℕ) → IsChain f form (x ∷ xs) → Covers f xs n → (f x).1 + 1 < n
    Covers-beyond x xs n h (k, z, lt, e, w) = grind (arith, h.apart 0 (suc k) z)

    -- the first number of a chain is covered, and the one behind its first block is not
    first_covered : (x : B) (xs : List B) → IsChain f form (x ∷ xs) → Covers f (x ∷ xs) (f x).0
    first_covered x xs h = let o = h.ordered 0 x (omega arith) in Covers-head x xs (f x).0 (omega (arith, o), o)

    Covers-gap : (x : B) (xs : List B) (n : ℕ) → IsChain f form (x ∷ xs) → n ≡ (f x).1 + 1 → Covers f (x ∷ xs) n → ⊥
    Covers-gap x xs n h is c = grind (arith, Covers-cons_cases x xs n c, Covers-beyond x xs n h)

    -- a chain inside another one begins no earlier; where they begin alike, its first block ends no later, and its rest
    -- lies in the rest of the other where they end alike
    module _ (x : B) (xs : List B) (y : B) (ys : List B) (hx : IsChain f form (x ∷ xs)) (hy : IsChain f form (y ∷ ys))
        (inside : IsInside f (y ∷ ys) (x ∷ xs)) where
      begins : (f x).0 ≤ (f y).0
      begins =
          let c = Covers-cons_cases x xs (f y).0 (inside (f y).0 (first_covered y ys hy)) in
          grind (arith, Covers-beyond x xs (f y).0 hx, hx.ordered 0 x)

      ends : (f y).0 ≤ (f x).0 → (f y).1 ≤ (f x).1
      ends low =
          let next = (f x).1 + 1 in
          grind (arith, cases_lt, hx.ordered 0 x, Covers-gap x xs next, inside next, Covers-head y ys next)

      rest : f x ≡ f y → IsInside f ys xs
      rest same n c = grind (arith, Covers-cons_cases x xs n, Covers-beyond y ys n, inside n (Covers-tail y ys n c))

    -- chains that cover the same numbers are the same
    pub IsChain-unique : (xs ys : List B) → IsChain f form xs → IsChain f form ys
        → ((n : ℕ) → Covers f xs n ↔ Covers f ys n) → xs ≡ ys
    IsChain-unique [] [] hx hy same = refl
    IsChain-unique (x ∷ xs) [] hx hy same = absurd (Covers-nil f _ ((same (f x).0).0 (first_covered x xs hx)))
    IsChain-unique [] (y ∷ ys) hx hy same = absurd (Covers-nil f _ ((same (f y).0).1 (first_covered y ys hy)))
    IsChain-unique (x ∷ xs) (y ∷ ys) hx hy same =
        let one = begins x xs y ys hx hy (λ n. (same n).1) in
        let other = begins y ys x xs hy hx (λ n. (same n).0) in
        let one_end = ends x xs y ys hx hy (λ n. (same n).1) other in
        let other_end = ends y ys x xs hy hx (λ n. (same n).0) one in
        let low : (f x).0 ≡ (f y).0 = omega arith in
        let high : (f x).1 ≡ (f y).1 = omega arith in
        let bounds : f x ≡ f y = λ i. (low i, high i) in
        let head : x ≡ y = hx.new_form 0 x (omega arith) ∙ ap form bounds ∙ sym (hy.new_form 0 y (omega arith)) in
        let tail = IsChain-unique xs ys (IsChain-tail x xs hx) (IsChain-tail y ys hy) (λ n. (
          rest y ys x xs hy hx (λ m. (same m).0) (sym bounds) n,
          rest x xs y ys hx hy (λ m. (same m).1) bounds n,
        )) in
        λ i. head i ∷ tail i
