-- Lists of blocks that ascend and neither overlap nor touch, and what they cover.
use Rattle.rpki_chain_core.proofs.Common.{List, [], arith, get_or, length, refl, suc, sym, zero, ℕ, ◌++◌, ◌+◌, ◌-◌, ◌<◌}
use Rattle.rpki_chain_core.proofs.Common.{◌↔◌, ◌∙◌, ◌∷◌, ◌≡◌, ◌≤◌, ◌⊎◌, le_refl, cases_lt, get_or_append_left}
use Rattle.rpki_chain_core.proofs.Common.{get_or_default, get_or_push, length_push, All-push, Covers, IsChain}
use Rattle.rpki_chain_core.proofs.Common.{IsChainOf, IsNew, IsRun, IsWithin}
use Rattle.std.proofs.lemmas.List.Quantifiers.{all_pairs_push}

-- the element at an index
pub element_at : {B : Type 0} (xs : List B) (i : ℕ) → i < length xs → (x : B) × (x ≡ get_or xs i x)
element_at [] i lt = absurd (omega arith)
element_at (x ∷ xs) zero lt = (x, refl)
element_at (x ∷ xs) (suc i) lt = element_at xs i (omega arith)

-- runs of one set that have a number in common are the same
same_run : (S : ℕ → Type 0) (b c : ℕ × ℕ) → IsRun S b → IsRun S c → IsWithin c b.0 → c ≡ b
same_run S b c run other w =
    let before = run.starts (b.0 - 1) in
    grind (arith, cases_lt, before, other.inside (b.0 - 1), run.inside (c.1 + 1), other.inside (b.1 + 1))

module _ {B : Type 0} (f : B → ℕ × ℕ) where
  -- no block covers nothing
  pub Covers-nil : (n : ℕ) → Covers f [] n → ⊥
  Covers-nil n (k, x, lt, e, w) = omega arith

  -- the block at an index covers its numbers
  pub Covers-at : (xs : List B) (k n : ℕ) (d : B) → k < length xs → IsWithin (f (get_or xs k d)) n → Covers f xs n
  Covers-at xs k n d lt w = (k, get_or xs k d, lt, get_or_default xs k _ d lt, w)

  -- one block more covers its numbers more
  pub Covers-push : (xs : List B) (y : B) (n : ℕ) → Covers f (xs ++ y ∷ []) n ↔ (Covers f xs n ⊎ IsWithin (f y) n)
  Covers-push xs y n = grind (arith, cases_lt, get_or_append_left, get_or_push, length_push)

  -- the same, with the bounds by another name
  pub Covers-push_as : (xs : List B) (y : B) (b : ℕ × ℕ) → f y ≡ b → (n : ℕ)
      → Covers f (xs ++ y ∷ []) n ↔ (Covers f xs n ⊎ IsWithin b n)
  Covers-push_as xs y b same n = rw (← same) (Covers-push xs y n)

  module _ (form : ℕ × ℕ → B) where
    -- no blocks are a chain
    pub IsChain-nil : IsChain f form []
    IsChain-nil = grind (arith)

    -- a chain with one more block behind it that doesn't touch the last
    pub IsChain-push : (xs : List B) (y : B) → IsChain f form xs → (f y).0 ≤ (f y).1 → IsNew f form y
        → ((at : ℕ) (d : B) → at + 1 ≡ length xs → (f (get_or xs at d)).1 + 1 < (f y).0) → IsChain f form (xs ++ y ∷ [])
    IsChain-push xs y h o new last = record {
      ordered = All-push (λ x. (f x).0 ≤ (f x).1) xs y h.ordered o;
      apart = all_pairs_push (λ x z. (f x).1 + 1 < (f z).0) xs y h.apart (λ k d lt.
          let at : ℕ = length xs - 1 in
          grind (arith, cases_lt, last at, h.apart k at, h.ordered at));
      new_form = All-push (λ x. IsNew f form x) xs y h.new_form new;
    }

    -- a later block begins no earlier
    pub ascends : (xs : List B) → IsChain f form xs → (i k : ℕ) (d : B) → i ≤ k → k < length xs
        → (f (get_or xs i d)).0 ≤ (f (get_or xs k d)).0
    ascends xs h i k d le lt = grind (arith, cases_lt)

    -- a number in a block, or next to it, lies in no other block
    own_block : (xs : List B) (k n : ℕ) (d : B) → IsChain f form xs → k < length xs → Covers f xs n
        → (f (get_or xs k d)).0 ≤ n + 1 → n ≤ (f (get_or xs k d)).1 + 1 → IsWithin (f (get_or xs k d)) n
    own_block xs k n d h lt c low high =
        let is : c.1 ≡ get_or xs c.0 d = sym c.3 ∙ get_or_default xs c.0 c.1 d c.2 in
        grind (arith, cases_lt)

    -- a set that has the chain's numbers has the chain's blocks for its runs
    pub IsChainOf-from : (xs : List B) (S : ℕ → Type 0) → IsChain f form xs → ((n : ℕ) → Covers f xs n ↔ S n)
        → IsChainOf f form S xs
    IsChainOf-from xs S h same =
        let run : (k : ℕ) (d : B) → k < length xs → IsRun S (f (get_or xs k d)) = λ k d lt. record {
          ordered = h.ordered k d lt;
          inside = λ n w. (same n).0 (Covers-at xs k n d lt w);
          starts = λ n next s. grind (arith, h.ordered k d, own_block xs k n d h lt ((same n).1 s));
          ends = λ s. (let c = (same _).1 s in grind (arith, h.ordered k d, own_block xs k _ d h lt c));
        } in
        record {
          runs = run;
          every_run = λ b other. (
              let c : Covers f xs b.0 = (same b.0).1 (other.inside b.0 (le_refl b.0, other.ordered)) in
              (c.0, c.1, c.2, c.3, same_run S b (f c.1) other (rw (← c.3) (run c.0 c.1 c.2)) c.4));
          ascending = λ i j d below lt. grind (arith, h.apart i j d, h.ordered i d);
          new_form = h.new_form;
          covers = same;
        }

    -- so has the set that it covers
    pub IsChainOf-itself : (xs : List B) → IsChain f form xs → IsChainOf f form (Covers f xs) xs
    IsChainOf-itself xs h = IsChainOf-from xs (Covers f xs) h (λ n. (λ c. c, λ c. c))

    -- the chain of a set is a chain: two runs of one set neither overlap nor touch
    pub IsChain-from : (xs : List B) (S : ℕ → Type 0) → IsChainOf f form S xs → IsChain f form xs
    IsChain-from xs S h = record {
      ordered = λ k d lt. (h.runs k d lt).ordered;
      apart = λ i j d below lt.
          let one : IsRun S (f (get_or xs i d)) = h.runs i d (omega arith) in
          let later : IsRun S (f (get_or xs j d)) = h.runs j d lt in
          grind (arith, cases_lt, h.ascending i j d below lt, later.starts ((f (get_or xs j d)).0 - 1));
      new_form = h.new_form;
    }

    -- and is the chain of any other set with the same numbers
    pub chain_of_same : (S All : ℕ → Type 0) → ((n : ℕ) → S n ↔ All n) → (xs : List B) → IsChainOf f form S xs
        → IsChainOf f form All xs
    chain_of_same S All same xs h = IsChainOf-from xs All (IsChain-from xs S h) (λ n.
        let all = same n in
        let covers = h.covers n in
        (λ c. all.0 (covers.0 c), λ a. covers.1 (all.1 a)))

    -- no blocks are the chain of a set with no numbers
    pub IsChainOf-nil : (S : ℕ → Type 0) → ((n : ℕ) → S n → ⊥) → IsChainOf f form S []
    IsChainOf-nil S none =
        IsChainOf-from [] S IsChain-nil (λ n. (λ c. absurd (Covers-nil n c), λ s. absurd (none n s)))
