-- Runs of sets: those of a chain, and that a set has one list of them.
use Rattle.rpki_chain.proofs.Common.{List, [], arith, get_or, inr, length, map, sym, take, ℕ, ◌++◌, ◌+◌, ◌<◌, ◌↔◌, ◌∷◌}
use Rattle.rpki_chain.proofs.Common.{◌≡◌, ◌≤◌, ◌⊎◌, cases_lt, append_assoc, get_or-map, length-map, map-append, All-map}
use Rattle.rpki_chain.proofs.Common.{Covers-nil, IsChain-from, IsChainOf-itself, Covers-cons_cases, Covers-head}
use Rattle.rpki_chain.proofs.Common.{Covers-tail, IsChain-unique, Covers, IsChain, IsChainOf, IsDifference, IsInside}
use Rattle.rpki_chain.proofs.Common.{IsIntersection, IsWithin, Holds, IsRunsOf, IsRunsOfBlocks, Runs}
use Rattle.rpki_chain.specs.Operations.{IsUnion}
use Rattle.std.proofs.lemmas.List.{map-id, map_more}
use Rattle.rpki_chain_core.proofs.Chains.{element_at}
use Rattle.rpki_chain_core.proofs.SortedBlocks.{Covers-map}

-- whether a number lies within bounds is decided
is_decided : (b : ℕ × ℕ) (n : ℕ) → IsWithin b n ⊎ (IsWithin b n → ⊥)
is_decided b n = grind (arith, cases_lt)

module _ {B : Type 0} (f : B → ℕ × ℕ) where
  -- whether a list covers a number is decided
  pub Covers-decided : (xs : List B) (n : ℕ) → Covers f xs n ⊎ (Covers f xs n → ⊥)
  Covers-decided [] n = inr (Covers-nil f n)
  Covers-decided (x ∷ xs) n =
      grind (arith, Covers-head, Covers-tail, Covers-cons_cases, is_decided (f x) n, Covers-decided xs n)

  -- the bounds of blocks hold what the blocks cover
  pub Holds-map : (xs : List B) (n : ℕ) → Holds (map f xs) n ↔ Covers f xs n
  Holds-map xs n = (
    Covers-map (λ b. b) f (map f xs) xs n (map-id (map f xs)),
    Covers-map f (λ b. b) xs (map f xs) n (sym (map-id (map f xs))),
  )

  -- the blocks of the chain of S are its runs
  pub IsRunsOf-from_chain : {form : ℕ × ℕ → B} {S : ℕ → Type 0} {xs : List B} → IsChainOf f form S xs
      → IsRunsOf S (map f xs)
  IsRunsOf-from_chain {form} {S} {xs} h =
      let chain = IsChain-from f form xs S h in
      record {
        members = λ n. grind (arith, h.covers n, Holds-map xs n);
        ordered = All-map (λ b. b.0 ≤ b.1) f xs chain.ordered;
        apart = λ i j b below lt.
            let long = length-map xs f in
            let (d, is) = element_at xs j (omega arith) in
            rw (get_or-map f xs i d b (omega arith), get_or-map f xs j d b (omega arith))
            (chain.apart i j d below (omega arith));
      }

-- the runs of a set are those of any set with the same numbers
pub IsRunsOf-same : (xs : Runs) (S U : ℕ → Type 0) → ((n : ℕ) → S n ↔ U n) → IsRunsOf S xs → IsRunsOf U xs
IsRunsOf-same xs S U same h = grind (arith)

pub IsRunsOf-iff : (xs : Runs) (S U : ℕ → Type 0) → ((n : ℕ) → S n ↔ U n) → IsRunsOf S xs ↔ IsRunsOf U xs
IsRunsOf-iff xs S U same = grind arith

-- a set has one list of runs
pub IsRunsOf-unique : (S : ℕ → Type 0) (xs ys : Runs) → IsRunsOf S xs → IsRunsOf S ys → xs ≡ ys
IsRunsOf-unique S xs ys hx hy =
    IsChain-unique (λ b. b) (λ b. b) xs ys (grind arith) (grind arith) (λ n. grind (arith, hx.members n, hy.members n))

-- blocks whose bounds are the runs of a set cover that set
pub IsRunsOfBlocks-bounds : {B : Type 0} (f : B → ℕ × ℕ) (xs : List B) (set : Runs) → map f xs ≡ set
    → IsRunsOf (Holds set) set → IsRunsOfBlocks f xs set
IsRunsOfBlocks-bounds f xs set same = IsRunsOf-same set (Holds set) (Covers f xs) (λ n. rw (← same) (Holds-map f xs n))

-- the bounds of a chain's blocks are the runs of what they hold
pub IsRunsOf-itself : {B : Type 0} (f : B → ℕ × ℕ) (form : ℕ × ℕ → B) (xs : List B) → IsChain f form xs
    → IsRunsOf (Holds (map f xs)) (map f xs)
IsRunsOf-itself f form xs h =
    IsRunsOf-same (map f xs) _ _ (λ n. grind (arith, Holds-map f xs n))
    (IsRunsOf-from_chain f (IsChainOf-itself f form xs h))

-- the chains of two sets, and one that is made of both
module _ {B : Type 0} {f : B → ℕ × ℕ} (some others : List B) {a b : Runs} (one : map f some ≡ a)
    (two : map f others ≡ b) where
  -- what tells whether the one lies in the other tells so of their sets
  pub inside_set : (P : Type 0) → P ↔ IsInside f some others → P ↔ ((n : ℕ) → Holds a n → Holds b n)
  inside_set P decided = (
    λ p n held. grind (arith, decided.0 p n, Holds-map f some n, Holds-map f others n),
    λ all. decided.1 (λ n covered. grind (arith, all n, Holds-map f some n, Holds-map f others n)),
  )

  module _ {form : ℕ × ℕ → B} {xs : List B} where
    -- the runs of what both have, of what the one has and the other has not, and of what one or the other has
    pub common_runs : IsChainOf f form (λ n. Covers f some n × Covers f others n) xs → IsIntersection a b (map f xs)
    common_runs h =
        IsRunsOf-same (map f xs) _ _ (λ n. grind (arith, Holds-map f some n, Holds-map f others n))
        (IsRunsOf-from_chain f h)

    pub excess_runs : IsChainOf f form (λ n. Covers f some n × (Covers f others n → ⊥)) xs → IsDifference a b (map f xs)
    excess_runs h =
        IsRunsOf-same (map f xs) _ _ (λ n. grind (arith, Holds-map f some n, Holds-map f others n))
        (IsRunsOf-from_chain f h)

    pub joint_runs : IsChainOf f form (λ n. Covers f some n ⊎ Covers f others n) xs → IsUnion a b (map f xs)
    joint_runs h =
        IsRunsOf-same (map f xs) _ _ (λ n. grind (arith, Holds-map f some n, Holds-map f others n))
        (IsRunsOf-from_chain f h)

-- whether runs hold a number is decided
pub Holds-decided : (runs : Runs) (n : ℕ) → Holds runs n ⊎ (Holds runs n → ⊥)
Holds-decided = Covers-decided (λ b. b)

-- lists of runs that hold the same numbers are the same
pub same_numbers : (a b : Runs) → IsRunsOf (Holds a) a → IsRunsOf (Holds b) b → ((n : ℕ) → Holds a n ↔ Holds b n)
    → a ≡ b
same_numbers a b ha hb same = IsRunsOf-unique (Holds b) a b (IsRunsOf-same a (Holds a) (Holds b) same ha) hb

-- ---- what a builder has

-- one block more was added, made anew with the bounds of the next
pub added_next : {T : Type 0} (f : T → ℕ × ℕ) (before : Runs) (made blocks : List T) (i : ℕ) (next new : T)
    → map f made ≡ before ++ map f (take i blocks) → i < length blocks → next ≡ get_or blocks i next → f new ≡ f next
    → map f (made ++ new ∷ []) ≡ before ++ map f (take (i + 1) blocks)
added_next f before made blocks i next new added lt is same = grind (arith, append_assoc, map-append, map_more)
