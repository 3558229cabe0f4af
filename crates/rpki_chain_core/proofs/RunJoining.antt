-- A run behind a chain is made longer, or closed: then it is the last block of the chain.
use Rattle.rpki_chain_core.proofs.Common.{List, [], ap, arith, get_or, length, sym, take, ℕ, ◌++◌, ◌+◌, ◌-◌, ◌<◌, ◌↔◌}
use Rattle.rpki_chain_core.proofs.Common.{◌∙◌, ◌∷◌, ◌≡◌, ◌≤◌, ◌⊎◌, get_or_default, take_all, take_more, All-push}
use Rattle.rpki_chain_core.proofs.Common.{IsNonDecreasingBy, IsBehind, IsInChainOrRun, Covers, IsChain, IsOfKind}
use Rattle.rpki_chain_core.proofs.Common.{IsWithin, numbers}
use Rattle.rpki_chain_core.proofs.Chains.{IsChain-push, Covers-nil, Covers-push_as}

-- a turn of a walk: the next bounds are held too, behind the run that is at hand then
pub record Turn {B : Type 0} (f : B → ℕ × ℕ) (form : ℕ × ℕ → B) (last : ℕ) (xs : List B) (run next : ℕ × ℕ)
    (new : List B) (made : ℕ × ℕ) : Type 0 where
  pub behind : IsBehind f form last new made
  pub begins : made.0 ≤ next.0
  pub held : (n : ℕ) → IsInChainOrRun f new made n ↔ (IsInChainOrRun f xs run n ⊎ IsWithin next n)

-- the elements passed cover what is held; the one that comes next is held too
one_more : (Held More Passed All Next : Type 0) → (More ↔ (Held ⊎ Next)) → (Held ↔ Passed) → (All ↔ (Passed ⊎ Next))
    → More ↔ All
one_more Held More Passed All Next more held all = grind (arith)

module _ {B : Type 0} {f : B → ℕ × ℕ} {form : ℕ × ℕ → B} {last : ℕ} where
  -- the first bounds are the run at hand, behind no blocks
  pub first_run : {run : ℕ × ℕ} → run.0 ≤ run.1 → run.1 ≤ last → IsBehind f form last [] run
  first_run ordered to = grind (arith)

  -- the run is made longer
  pub longer_turn : {I : Type 0} (number : I → ℕ) (xs : List B) (longer run next : I × I)
      → IsBehind f form last xs (numbers number run) → number run.0 ≤ number next.0 → number next.1 ≤ last
      → longer.0 ≡ run.0 → (number run.1 ≤ number longer.1) × ((longer.1 ≡ run.1) ⊎ (longer.1 ≡ next.1))
      → ((n : ℕ) → IsWithin (numbers number longer) n
      ↔ (IsWithin (numbers number run) n ⊎ IsWithin (numbers number next) n))
      → Turn f form last xs (numbers number run) (numbers number next) xs (numbers number longer)
  longer_turn number xs longer run next h low within from to over =
      let begins = ap number from in
      record {
        behind = grind (arith, h.apart);
        begins = omega arith;
        held = λ n. (let more = over n in grind (arith));
      }

  module _ {xs : List B} {run : ℕ × ℕ} (h : IsBehind f form last xs run) {y : B} (is : f y ≡ run)
      (value : y ≡ form run) where
    -- the run is closed
    pub closed_run : IsChain f form (xs ++ y ∷ [])
    closed_run = IsChain-push f form xs y h.chain (grind (arith)) (value ∙ ap form (sym is)) (grind (arith))

    -- and the next bounds, which don't touch it, are the run at hand
    pub closed_turn : (next : ℕ × ℕ) → next.0 ≤ next.1 → next.1 ≤ last → run.1 + 1 < next.0
        → Turn f form last xs run next (xs ++ y ∷ []) next
    closed_turn next ordered to_last apart = record {
      behind = record {
        chain = closed_run;
        ordered = ordered;
        to_last = to_last;
        apart = All-push (λ x. (f x).1 + 1 < next.0) xs y (grind (arith)) (grind (arith));
      };
      begins = omega arith;
      held = λ n. (let closed = Covers-push_as f xs y run is n in grind (arith));
    }

-- the blocks before `at` are joined: they are held, and the run begins no later than the last of them
pub record Joined {B : Type 0} (f : B → ℕ × ℕ) (form : ℕ × ℕ → B) (first last : ℕ) (zs : List B) (at : ℕ) (xs : List B)
    (run : ℕ × ℕ) : Type 0 where
  pub within : (0 < at) × (at ≤ length zs)
  pub at_hand : IsBehind f form last xs run
  pub held : (n : ℕ) → IsInChainOrRun f xs run n ↔ Covers f (take at zs) n
  pub of_kind : IsOfKind f first last (take at zs)
  pub behind : (k : ℕ) (d : B) → k + 1 ≡ at → run.0 ≤ (f (get_or zs k d)).0

module _ {B : Type 0} {f : B → ℕ × ℕ} {form : ℕ × ℕ → B} {first last : ℕ} {zs : List B} where
  -- at first the run is the first block
  pub Joined-first : {z : B} {run : ℕ × ℕ} → 0 < length zs → z ≡ get_or zs 0 z → run.0 ≡ (f z).0 → run.1 ≡ (f z).1
      → run.0 ≤ run.1 → first ≤ run.0 → run.1 ≤ last → Joined f form first last zs 1 [] run
  Joined-first {z} {run} lt is low high ordered from to = record {
    within = omega arith;
    at_hand = first_run ordered to;
    held = λ n. grind (arith, Covers-nil, Covers-push_as, take_more);
    of_kind = λ n. grind (arith, Covers-nil, Covers-push_as, take_more);
    behind = grind (arith, get_or_default);
  }

  module _ {at : ℕ} {xs : List B} {run : ℕ × ℕ} {z : B} (joined : Joined f form first last zs at xs run)
      (lt : at < length zs) (is : z ≡ get_or zs at z) where
    -- the next one begins no earlier, where they ascend
    pub Joined-rises : {low : ℕ} → low ≡ (f z).0 → IsNonDecreasingBy (λ b. (f b).0) zs → run.0 ≤ low
    Joined-rises low ascends = grind (arith, joined.behind (at - 1) z, ascends (at - 1) at z)

    -- and is taken in
    pub Joined-next : (new : List B) (next made : ℕ × ℕ) → next.0 ≡ (f z).0 → next.1 ≡ (f z).1 → first ≤ next.0
        → next.1 ≤ last → Turn f form last xs run next new made → Joined f form first last zs (at + 1) new made
    Joined-next new next made low high from to turn =
        let same : f z ≡ next = λ i. (sym low i, sym high i) in
        let more = Covers-push_as f (take at zs) z next same in
        record {
          within = omega arith;
          at_hand = turn.behind;
          held = λ n. rw (take_more zs at z lt, ← is)
              (one_more _ _ _ _ _ (turn.held n) (joined.held n) (more n));
          of_kind = λ n. rw (take_more zs at z lt, ← is) (grind (arith, more n, joined.of_kind n));
          behind = λ k d now. let here = get_or_default zs k d z in grind (arith);
        }

  -- at the end all blocks are held by the run, which is closed, and the chain before it
  pub Joined-covers : {at : ℕ} {xs : List B} {run : ℕ × ℕ} {y : B} → Joined f form first last zs at xs run
      → f y ≡ run → length zs ≤ at → (n : ℕ) → Covers f (xs ++ y ∷ []) n ↔ Covers f zs n
  Joined-covers {at} {xs} {run} {y} joined is end n =
      let all = joined.held n in
      let closed = Covers-push_as f xs y run is n in
      rw (← take_all at zs end) (grind (arith))
