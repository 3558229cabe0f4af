-- Walks that take the block that begins first into the run at hand: what is held, and the blocks that are left.
use Rattle.rpki_chain_core.proofs.Common.{List, Some, None, [], arith, drop, get_or, inl, inr, le_refl, length, refl, ℕ}
use Rattle.rpki_chain_core.proofs.Common.{⊎_elim, ◌++◌, ◌+◌, ◌-◌, ◌↔◌, ◌∷◌, ◌≡◌, ◌≤◌, ◌⊎◌, drop_all, drop_more}
use Rattle.rpki_chain_core.proofs.Common.{length-append, IsBehind, IsInChainOrRun, Covers, HoldsBlock, IsChain}
use Rattle.rpki_chain_core.proofs.Common.{IsChainOf, IsWithin, numbers}
use Rattle.std.proofs.Common.{IfOk, Result}
use Rattle.rpki_chain_core.proofs.Chains.{Covers-nil, Covers-push_as, element_at, IsChainOf-from, IsChain-from}
use Rattle.rpki_chain_core.proofs.Chains.{chain_of_same}
use Rattle.rpki_chain_core.proofs.ReadCounts.{IsReader, reader_next}
use Rattle.rpki_chain_core.proofs.RunJoining.{Turn, first_run, closed_run}
use Rattle.rpki_chain_core.proofs.WalkSides.{IsAt, ordered_at, covers_at, before_next}
use Rattle.rpki_chain_core.proofs.ShortestChain.{IsChain-shortest}
use Rattle.rpki_chain_core.proofs.UniqueChain.{Covers-cons, Covers-head, Covers-tail, Covers-cons_cases}
use Rattle.std.proofs.lemmas.Result.{IfOk-weaker}

-- a turn moves the block at hand from what is left to what is held
moved : {All Held New Left Next Block Rest : Type 0} → ((Held ⊎ (Left ⊎ Rest)) ↔ All) → (New ↔ (Held ⊎ Block))
    → (Left ↔ (Block ⊎ Next)) → (New ⊎ (Next ⊎ Rest)) ↔ All
moved all new left = grind (arith)

-- what is left of two lists may change places
swapped : {All Held One Other : Type 0} → ((Held ⊎ (One ⊎ Other)) ↔ All) → (Held ⊎ (Other ⊎ One)) ↔ All
swapped all = grind (arith)

-- two sets with the numbers of a third have the same
same_both : {A B C : Type 0} → (A ↔ B) → (C ↔ B) → A ↔ C
same_both one other = grind (arith)

module _ {B : Type 0} (f : B → ℕ × ℕ) where
  -- the blocks that are left are the one at hand and those behind it
  Covers-left : (xs : List B) (i : ℕ) (b : ℕ × ℕ) → IsAt f xs i (Some b) → (n : ℕ)
      → Covers f (drop i xs) n ↔ (IsWithin b n ⊎ Covers f (drop (i + 1) xs) n)
  Covers-left xs i b at n =
      let x = (element_at xs i at.0).0 in
      rw (drop_more xs i x at.0, ← at.1 x) (Covers-cons f (get_or xs i x) (drop (i + 1) xs) n)

  -- none is left at the end
  pub none_left : (xs : List B) (i n : ℕ) → i ≡ length xs → Covers f (drop i xs) n → ⊥
  none_left xs i n end c = Covers-nil f n (rw (drop_all i xs (omega arith)) at c)

  -- what a first run holds is of a set that has its numbers
  held_first : (run : ℕ × ℕ) (All : ℕ → Type 0) (n : ℕ) → (IsWithin run n → All n)
      → (IsInChainOrRun f [] run n ⊎ All n) ↔ All n
  held_first run All n within = (⊎_elim (⊎_elim (λ no. absurd (Covers-nil f n no)) within) (λ all. all), inr)

  -- what two lists cover
  Covers-append : (xs ys : List B) (n : ℕ) → Covers f (xs ++ ys) n ↔ (Covers f xs n ⊎ Covers f ys n)
  Covers-append [] ys n = grind (arith, Covers-nil)
  Covers-append (x ∷ xs) ys n = grind (arith, Covers-cons_cases, Covers-head, Covers-tail, Covers-append xs ys n)

  -- no chain of a union has more blocks than both lists
  pub union_few : (form : ℕ × ℕ → B) {E : Type 0} (xs ys : List B) (r : Result (List B) E)
      → IfOk r (IsChainOf f form (λ n. Covers f xs n ⊎ Covers f ys n))
      → IfOk r (λ out. length out ≤ length xs + length ys)
  union_few form xs ys r = IfOk-weaker r _ _ (λ out h.
      let both = length-append xs ys in
      let short = IsChain-shortest f form out (xs ++ ys) (IsChain-from f form out _ h)
      (λ n. same_both (Covers-append xs ys n) (h.covers n)) in
      omega arith)

-- a walk over a list that joins its blocks, with what is left elsewhere: the run at hand begins no later than the block
-- at hand, all is held or left, and the blocks behind the one at hand are left to be read
pub record Walk {B I : Type 0} (f : B → ℕ × ℕ) (form : ℕ × ℕ → B) (number : I → ℕ) (last : ℕ) (All Rest : ℕ → Type 0)
    (xs now : List B) (i count most : ℕ) (b run : I × I) (out : List B) : Type 0 where
  pub behind : IsBehind f form last out (numbers number run)
  pub chain : IsChain f form xs
  pub at : HoldsBlock f number last xs i (Some b)
  pub ordered : number b.0 ≤ number b.1
  pub later : number run.0 ≤ number b.0
  pub held : (n : ℕ) → (IsInChainOrRun f out (numbers number run) n ⊎ (Covers f (drop i xs) n ⊎ Rest n)) ↔ All n
  pub reader : IsReader xs now i count most

module _ {B I : Type 0} {f : B → ℕ × ℕ} {form : ℕ × ℕ → B} {number : I → ℕ} {last : ℕ} where
  -- it begins at any block
  walk_from : {All Rest : ℕ → Type 0} {xs now : List B} {i count most : ℕ} {b run : I × I} {out : List B}
      → IsBehind f form last out (numbers number run) → IsChain f form xs → HoldsBlock f number last xs i (Some b)
      → number run.0 ≤ number b.0
      → ((n : ℕ) → (IsInChainOrRun f out (numbers number run) n ⊎ (Covers f (drop i xs) n ⊎ Rest n)) ↔ All n)
      → IsReader xs now i count most → Walk f form number last All Rest xs now i count most b run out
  walk_from {xs = xs} {i = i} {b = b} behind chain at later held reader = record {
    behind = behind;
    chain = chain;
    at = at;
    ordered = ordered_at f form xs i (numbers number b) chain (at.0, at.1);
    later = later;
    held = held;
    reader = reader;
  }

  -- with nothing left elsewhere, of what is held and left then
  pub walk_alone : {xs : List B} {i : ℕ} (count : ℕ) {b run : I × I} {out : List B}
      → IsBehind f form last out (numbers number run) → IsChain f form xs → HoldsBlock f number last xs i (Some b)
      → number run.0 ≤ number b.0
      → Walk f form number last (λ n. IsInChainOrRun f out (numbers number run) n ⊎ Covers f (drop i xs) n) (λ _. ⊥) xs
      xs i count (count + (length xs - (i + 1))) b run out
  walk_alone count behind chain at later =
      walk_from behind chain at later (λ n. (⊎_elim inl (⊎_elim inr (λ no. absurd no)), ⊎_elim inl (λ l. inr (inl l))))
      record { kept = refl; reads = le_refl _ }

  module _ {All Rest : ℕ → Type 0} {xs now : List B} {i count most : ℕ} {b run made : I × I} {out new : List B}
      (w : Walk f form number last All Rest xs now i count most b run out)
      (turn : Turn f form last out (numbers number run) (numbers number b) new (numbers number made)) where
    -- the block at hand is held then, and the next one is at hand
    pub walk_turn : (after : List B) (next : I × I) (more : ℕ) → HoldsBlock f number last now (i + 1) (Some next)
        → after ≡ now → more ≡ count + 1 → Walk f form number last All Rest xs after (i + 1) more most next made new
    walk_turn after next more at kept read =
        let here : IsAt f xs i (Some (numbers number b)) = (w.at.0, w.at.1) in
        let on = reader_next f number last xs now after i (Some next) count more most w.reader at kept read in
        let there : IsAt f xs (i + 1) (Some (numbers number next)) = (on.1.0, on.1.1) in
        let less = before_next f form xs i (numbers number b) w.chain here (Some (numbers number next)) there in
        walk_from turn.behind w.chain on.1 (omega (arith, less (number made.0) (omega arith)))
        (λ n. moved (w.held n) (turn.held n) (Covers-left f xs i (numbers number b) here n)) on.0

    -- a block of another list that begins no earlier stays at hand
    pub walk_waits : {ys ynow : List B} {j ycount ymost : ℕ} {d : I × I}
        → Walk f form number last All (λ n. Covers f (drop i xs) n) ys ynow j ycount ymost d run out
        → number b.0 ≤ number d.0
        → Walk f form number last All (λ n. Covers f (drop (i + 1) xs) n) ys ynow j ycount ymost d made new
    walk_waits other first =
        walk_from turn.behind other.chain other.at (omega arith)
        (λ n. swapped (moved (swapped (other.held n)) (turn.held n)
        (Covers-left f xs i (numbers number b) (w.at.0, w.at.1) n))) other.reader

    -- where none is left, what is held and left elsewhere is all
    walk_end : HoldsBlock f number last now (i + 1) None → (n : ℕ)
        → (IsInChainOrRun f new (numbers number made) n ⊎ Rest n) ↔ All n
    walk_end end n =
        let none = none_left f xs (i + 1) n (let kept = w.reader.kept in grind (arith)) in
        let all = moved (w.held n) (turn.held n) (Covers-left f xs i (numbers number b) (w.at.0, w.at.1) n) in
        grind (arith)

    -- so the chain of these is that of all
    pub walks_end : HoldsBlock f number last now (i + 1) None → {E : Type 0} (r : Result (List B) E)
        → IfOk r (IsChainOf f form (λ n. IsInChainOrRun f new (numbers number made) n ⊎ Rest n))
        → IfOk r (IsChainOf f form All)
    walks_end end r = IfOk-weaker r _ _ (chain_of_same f form _ _ (walk_end end))

    -- and where nothing is left elsewhere the run is closed, and is the last of the chain of all
    pub walk_closed : HoldsBlock f number last now (i + 1) None → ((n : ℕ) → Rest n → ⊥) → {y : B}
        → f y ≡ numbers number made → y ≡ form (numbers number made) → IsChainOf f form All (new ++ y ∷ [])
    walk_closed end none is value =
        IsChainOf-from f form _ _ (closed_run turn.behind is value) (λ n.
        let nothing = none n in
        let all = walk_end end n in
        let closed = Covers-push_as f new _ _ is n in
        (λ c. all.0 (inl (closed.0 c)), λ a. closed.1 (⊎_elim (λ h. h) (λ r. absurd (nothing r)) (all.1 a))))

module _ {B I : Type 0} {f : B → ℕ × ℕ} {form : ℕ × ℕ → B} (number : I → ℕ) {last : ℕ} where
  -- the first block of a list is a run behind no blocks, of each set that has the numbers of the list
  pub first_block : {xs : List B} {b : I × I} → IsChain f form xs → HoldsBlock f number last xs 0 (Some b)
      → (All : ℕ → Type 0) → ((n : ℕ) → Covers f xs n → All n)
      → IsBehind f form last [] (numbers number b) × ((n : ℕ) → IsWithin (numbers number b) n → All n)
  first_block {xs} {b} chain at All of = (
    first_run (ordered_at f form xs 0 (numbers number b) chain (at.0, at.1)) at.2,
    λ n w. of n (covers_at f form xs 0 (numbers number b) chain (at.0, at.1) n w.0 w.1),
  )

  -- where the other list has no block, the chain of it and of the list is that of all
  pub alone_first : {xs : List B} {b : I × I} → IsChain f form xs → HoldsBlock f number last xs 0 (Some b)
      → {E : Type 0} (now : List B) (All : ℕ → Type 0) → ((n : ℕ) → All n ↔ Covers f xs n) → now ≡ xs
      → (r : Result (List B) E)
      → IfOk r (IsChainOf f form (λ n. IsInChainOrRun f [] (numbers number b) n ⊎ Covers f now n))
      → IfOk r (IsChainOf f form All)
  alone_first {xs} {b} chain at now All all kept r h =
      let first = first_block chain at (Covers f xs) (λ n c. c) in
      IfOk-weaker r _ _ (chain_of_same f form _ All
      (λ n. same_both (held_first f (numbers number b) (Covers f xs) n (first.1 n)) (all n))) (rw kept at h)

module _ {B I : Type 0} {f : B → ℕ × ℕ} {form : ℕ × ℕ → B} {number : I → ℕ} {last : ℕ} where
  -- walks over two lists begin with the block that begins first
  pub walks_start : {xs ys : List B} {b d run : I × I} → IsChain f form xs → IsChain f form ys
      → HoldsBlock f number last xs 0 (Some b) → HoldsBlock f number last ys 0 (Some d) → number run.0 ≤ number b.0
      → number run.0 ≤ number d.0 → (run ≡ b) ⊎ (run ≡ d) → (count other_count : ℕ)
      → Walk f form number last (λ n. Covers f xs n ⊎ Covers f ys n) (λ n. Covers f ys n) xs xs 0 count
      (count + (length xs - 1)) b run []
      × Walk f form number last (λ n. Covers f xs n ⊎ Covers f ys n) (λ n. Covers f xs n) ys ys 0 other_count
      (other_count + (length ys - 1)) d run []
  walks_start {xs} {ys} {b} {d} {run} chain other_chain at other_at begins other_begins one count other_count =
      let All : ℕ → Type 0 = λ n. Covers f xs n ⊎ Covers f ys n in
      let first : IsBehind f form last [] (numbers number run) × ((n : ℕ) → IsWithin (numbers number run) n → All n) =
      ⊎_elim
      (λ (e : run ≡ b). rw e (first_block number chain at All (λ n. inl)))
      (λ (e : run ≡ d). rw e (first_block number other_chain other_at All (λ n. inr))) one in
      let held = λ (n : ℕ). held_first f (numbers number run) All n (first.1 n) in (
        walk_from first.0 chain at begins held (record { kept = refl; reads = le_refl _ }),
        walk_from first.0 other_chain other_at other_begins (λ n. swapped (held n))
            (record { kept = refl; reads = le_refl _ }),
      )
