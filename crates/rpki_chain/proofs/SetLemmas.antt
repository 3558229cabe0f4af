-- Chains of blocks, and the sets that they are.
use Rattle.rpki_chain.proofs.Common.{IfOk, List, Result, [], arith, get_or, length, map, refl, sym, ℕ, ◌-◌, ◌<◌, ◌↔◌}
use Rattle.rpki_chain.proofs.Common.{◌∷◌, ◌≡◌, ◌≤◌, All-head, All-map, All-tail, Decides, All, Covers, Covers-nil}
use Rattle.rpki_chain.proofs.Common.{IsChain-from, is_same_pair, le_refl, same_runs, IsChain, IsChainOf, IsOfKind}
use Rattle.rpki_chain.proofs.Common.{IsBlockChain, IsBlockSet, Holds, IsRunsOf, IsRunsOfBlocks, Runs}
use Rattle.std.specs.Cmp.Lexicographic.{pointwise_decides}
use Rattle.std.proofs.lemmas.Grind.{common_steps}
use Rattle.rpki_chain.proofs.RunLists.{IsRunsOf-itself, IsRunsOfBlocks-bounds, same_numbers}
use Rattle.rpki_chain.specs.Operations.{IsUnion}

-- whether two sets are the same is what the comparison of their bounds tells
pub same_runs_decides : (a b : Runs) → Decides (same_runs a b) (a ≡ b)
same_runs_decides a b = pointwise_decides {E = is_same_pair} (λ p q. grind (arith, common_steps)) a b

-- what is made again of what each is seen as is the same
pub made_again : {X Y : Type 0} (see : X → Y) (make : Y → X) (xs : List X) → All (λ x. x ≡ make (see x)) xs
    → map make (map see xs) ≡ xs
made_again see make [] same = refl
made_again see make (x ∷ xs) same =
    grind (arith, All-head, All-tail, made_again see make xs (All-tail (λ y. y ≡ make (see y)) x xs same))

-- what is made of the runs of S is the set S
pub made : {E : Type 0} {S : ℕ → Type 0} {runs : Runs} (r : Result Runs E) → IfOk r (λ set. set ≡ runs)
    → IsRunsOf S runs → IfOk r (IsRunsOf S)
made r h is = grind arith

-- where sets are told apart, so are their numbers
pub numbers_decided : (P : Type 0) (a b : Runs) → IsRunsOf (Holds a) a → IsRunsOf (Holds b) b → P ↔ (a ≡ b)
    → P ↔ ((n : ℕ) → Holds a n ↔ Holds b n)
numbers_decided P a b ha hb decided = grind (arith, same_numbers)

module _ {B : Type 0} {f : B → ℕ × ℕ} {form : ℕ × ℕ → B} {first last : ℕ} where
  -- the chain of numbers of the kind is one of blocks of the kind
  pub IsBlockChain-of_kind : {S : ℕ → Type 0} {xs : List B} → IsChainOf f form S xs
      → ((n : ℕ) → S n → (first ≤ n) × (n ≤ last)) → IsBlockChain f form first last xs
  IsBlockChain-of_kind {S} {xs} h kind =
      let chain = IsChain-from f form xs S h in
      record {
        chain = chain;
        above = λ k d lt. (kind _ ((h.runs k d lt).inside _ (le_refl _, chain.ordered k d lt))).0;
        below = λ k d lt. (kind _ ((h.runs k d lt).inside _ (chain.ordered k d lt, le_refl _))).1;
      }

  -- whose numbers are the kind's
  pub IsBlockChain-kind : {xs : List B} → IsBlockChain f form first last xs → IsOfKind f first last xs
  IsBlockChain-kind h n (k, x, lt, is, within) = grind (arith, h.above k x lt, h.below k x lt)

  -- so the chain of some of its numbers is one too
  pub IsBlockChain-part : {P : ℕ → Type 0} {xs ys : List B} → IsBlockChain f form first last ys
      → IsChainOf f form (λ n. Covers f ys n × P n) xs → IsBlockChain f form first last xs
  IsBlockChain-part of h = IsBlockChain-of_kind h (λ n s. IsBlockChain-kind of n s.0)

module _ {B : Type 0} (f : B → ℕ × ℕ) where
  -- the blocks that are made of the runs of a set have these runs for their bounds
  pub bounds_made : (form : ℕ × ℕ → B) (first last : ℕ)
      → ((b : ℕ × ℕ) → first ≤ b.0 → b.0 ≤ b.1 → b.1 ≤ last → f (form b) ≡ b) → (set : Runs) → IsBlockSet first last set
      → map f (map form set) ≡ set
  bounds_made form first last law set is = grind (arith, made_again)

  -- so they stand for the set
  pub made_of_set : (form : ℕ × ℕ → B) (first last : ℕ)
      → ((b : ℕ × ℕ) → first ≤ b.0 → b.0 ≤ b.1 → b.1 ≤ last → f (form b) ≡ b) → (set : Runs) → IsBlockSet first last set
      → IsRunsOfBlocks f (map form set) set
  made_of_set form first last law set is = search (arith, IsRunsOfBlocks-bounds, bounds_made)

  module _ (form : ℕ × ℕ → B) (first last : ℕ) where
    -- no block of a chain has lesser numbers than its first block, and none has greater numbers than its last
    pub IsBlockChain-from_ends : (blocks : List B) → IsChain f form blocks
        → ((d : B) → 0 < length blocks
        → (first ≤ (f (get_or blocks 0 d)).0) × ((f (get_or blocks (length blocks - 1) d)).1 ≤ last))
        → IsBlockChain f form first last blocks
    IsBlockChain-from_ends blocks chain ends =
        let end = length blocks - 1 in
        record {
          chain = chain;
          above = λ k d small. grind (arith, chain.apart 0 k d, chain.ordered 0 d, ends d);
          below = λ k d small. grind (arith, chain.apart k end d, chain.ordered end d, ends d);
        }

module _ {B : Type 0} {f : B → ℕ × ℕ} {form : ℕ × ℕ → B} {first last : ℕ} {blocks : List B} {set : Runs}
    (chain : IsBlockChain f form first last blocks) (own : map f blocks ≡ set) where
  -- a chain is a set
  pub IsBlockSet-from_chain : IsBlockSet first last set
  IsBlockSet-from_chain =
      let above = All-map (λ (b : ℕ × ℕ). first ≤ b.0) f blocks chain.above in
      let below = All-map (λ (b : ℕ × ℕ). b.1 ≤ last) f blocks chain.below in
      rw (← own) (record { are_runs = IsRunsOf-itself f form blocks chain.chain; above = above; below = below })

  -- a chain is its union with one of no blocks, on either side
  pub joint_none : (others : List B) (other : Runs) → map f others ≡ other → others ≡ []
      → IsUnion set other set × IsUnion other set set
  joint_none others other two none =
      let empty : other ≡ [] = sym (rw none at two) in
      grind (arith, empty, Covers-nil (λ (b : ℕ × ℕ). b), IsBlockSet-from_chain.are_runs)
