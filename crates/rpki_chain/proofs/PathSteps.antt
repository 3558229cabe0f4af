-- One step of a path after another, and that a path has one result or one first refusal.
use Rattle.rpki_chain.proofs.Common.{List, Result, ap, arith, get_or, length, subst, sym, take, ℕ, ◌+◌, ◌-◌, ◌<◌, ◌↔◌}
use Rattle.rpki_chain.proofs.Common.{◌++◌, ◌≡◌, ◌≤◌, ◌∙◌, cases_lt, get_or-take, get_or_default, length-take-le}
use Rattle.rpki_chain.proofs.Common.{take_all}
use Rattle.rpki_chain.proofs.Common.{All, All-more, AnswersOrMemory-from_found, Blocks, IfRefused, MatchResult}
use Rattle.rpki_chain.proofs.Common.{OrMemory}
use Rattle.rpki_chain.proofs.Common.{Claim, Exceeds, ExceedsAt, IsExcess, IsFirstRefusal, IsLeft, IsPathResult, Leaves}
use Rattle.rpki_chain.proofs.Common.{Lists, Holds, IsRunsOf, Runs, Overclaim, Refuse, Step}
use Rattle.std.proofs.Common.{below_more, drop}
use Rattle.std.proofs.Math.Seq.{take-add}
use Rattle.std.proofs.Math.ListN.{get_or-append}
use Rattle.std.proofs.lemmas.List.{get_or-append-add, length-append, length-drop}
use Rattle.std.proofs.lemmas.List.Elements.{All-append}
use Rattle.rpki_text.specs.Reading.{AnswersOrMemory}
use Rattle.rpki_chain.specs.declared.path.PathRefusal.{PathRefusal}
use Rattle.rpki_chain.proofs.IssuedClaims.{nothing_exceeds, some_held}
use Rattle.rpki_chain.proofs.RunLists.{IsRunsOf-same, IsRunsOf-unique}

pub Exceeds-same : (S U : ℕ → Type 0) (claim : Claim) (mode : Overclaim) (n : ℕ) → (U n → S n) → Exceeds S claim mode n
    → Exceeds U claim mode n
Exceeds-same S U claim mode n same e = grind arith

module _ {R : Type 0} (claim : R → Claim) (S : ℕ → Type 0) (steps : List (Step R)) where
  pub IsLeft-more : (at : ℕ) (step : Step R) → at < length steps → step ≡ get_or steps at step → (n : ℕ)
      → (IsLeft claim S (take at steps) n × Leaves (claim step.claim) n) ↔ IsLeft claim S (take (at + 1) steps) n
  IsLeft-more at step lt is n =
      grind (arith, All-more (λ s. Leaves (claim s.claim) n) steps at step lt, get_or-take, length-take-le)

  -- the step at a place is one
  pub ExceedsAt-step : (at : ℕ) (step : Step R) → at < length steps → step ≡ get_or steps at step → (n : ℕ)
      → ExceedsAt claim S steps at n → Exceeds (IsLeft claim S (take at steps)) (claim step.claim) step.mode n
  ExceedsAt-step at step lt is n e = grind (arith, get_or_default)

  -- what remains after all steps, of which so many are taken, is what remains after each
  pub IsLeft-all : (at : ℕ) → length steps ≤ at → (n : ℕ) → IsLeft claim S (take at steps) n ↔ IsLeft claim S steps n
  IsLeft-all at all n = grind (arith, take_all)

  -- each step leaves what remains after all of them
  pub Leaves-at : (at : ℕ) (step : Step R) → at < length steps → step ≡ get_or steps at step → (n : ℕ)
      → IsLeft claim S steps n → Leaves (claim step.claim) n
  Leaves-at at step lt is n left = grind (arith, left.1 at step lt)

  -- what the claim that was seen leaves of what remained is what remains after one step more
  pub left_more : (at : ℕ) (left issued : Runs) (step : Step R) (seen : Claim)
      → IsRunsOf (IsLeft claim S (take at steps)) left
      → at < length steps → step ≡ get_or steps at step → seen ≡ claim step.claim
      → IsRunsOf (λ n. Holds left n × Leaves seen n) issued → IsRunsOf (IsLeft claim S (take (at + 1) steps)) issued
  left_more at left issued step seen before lt is same h =
      let runs = rw same at h in
      IsRunsOf-same issued _ _ (λ n. grind (arith, IsLeft-more at step lt is n, before.members n)) runs

  -- the first steps, which are done with, left a set, and no step before a place was refused
  pub record IsPassed (at done : ℕ) (known : Runs) : Type 0 where
    pub runs : IsRunsOf (IsLeft claim S (take done steps)) known
    pub few : done ≤ at
    pub accepted : (k : ℕ) → k < at → (n : ℕ) → ExceedsAt claim S steps k n → ⊥

  pub none_passed : (left root : Runs) → left ≡ root → IsRunsOf S root → IsPassed 0 0 left
  none_passed left root same h = grind (arith, IsRunsOf-same)

  -- what holds of two lists holds of them together
  All-parts : (P : Step R → Type 0) (xs ys : List (Step R)) → All P (xs ++ ys) ↔ (All P xs × All P ys)
  All-parts P xs ys = (
    λ all. (
      λ k d lt. rw (get_or-append xs ys d k lt) at (all k d (omega (arith, lt, length-append xs ys))),
      λ k d lt. rw (get_or-append-add xs ys k d) at (all (length xs + k) d (omega (arith, lt, length-append xs ys))),
    ),
    λ parts. All-append P xs ys parts.0 parts.1,
  )

  -- what holds of the first steps and of the next ones holds of them together
  next_steps : (P : Step R → Type 0) (done at : ℕ) → done ≤ at
      → All P (take at steps) ↔ (All P (take done steps) × All P (take (at - done) (drop done steps)))
  next_steps P done at few =
      let together : take at steps ≡ take done steps ++ take (at - done) (drop done steps) =
      ap (λ n. take n steps) (omega (arith, few)) ∙ take-add done (at - done) steps in
      rw together (All-parts P (take done steps) (take (at - done) (drop done steps)))

  module _ (at done : ℕ) (known : Runs) (passed : IsPassed at done known) where
    -- what the known set and the steps since leave remains after all steps so far
    pub left_since : (n : ℕ)
        → IsLeft claim (Holds known) (take (at - done) (drop done steps)) n ↔ IsLeft claim S (take at steps) n
    left_since n =
        grind (arith, next_steps (λ step. Leaves (claim step.claim) n) done at passed.few, passed.runs.members n)

    -- so it remains at the end
    pub all_passed : (left : Runs) → length steps ≤ at
        → IsRunsOf (IsLeft claim (Holds known) (take (length steps - done) (drop done steps))) left
        → IsPathResult claim S steps left
    all_passed left all runs =
        let rest : take (length steps - done) (drop done steps) ≡ take (at - done) (drop done steps) =
        take_all _ _ (omega (arith, length-drop done steps))
        ∙ sym (take_all _ _ (omega (arith, length-drop done steps, all))) in
        let since = rw rest at runs in
        record {
          runs = IsRunsOf-same left _ _ (λ n. grind (arith, left_since n, IsLeft-all at all n)) since;
          accepted = λ k n e. passed.accepted k (omega (arith, e.1)) n e;
        }

    -- one step more, whose claim was seen
    module _ (step : Step R) (lt : at < length steps) (is : step ≡ get_or steps at step) (seen : Claim)
        (same : seen ≡ claim step.claim)
      where
        -- a claim that can't be refused
        pub unrefused_passed : (step.mode ≡ Refuse → (n : ℕ) → Lists seen n → ⊥) → IsPassed (at + 1) done known
        unrefused_passed none = record {
          runs = passed.runs;
          few = omega (arith, passed.few);
          accepted = below_more (λ k. (n : ℕ) → ExceedsAt claim S steps k n → ⊥) at passed.accepted
              (λ n e. nothing_exceeds (IsLeft claim S (take at steps)) seen step.mode none n
              (rw same (ExceedsAt-step at step lt is n e)));
        }

        module _ (listed : Runs) (lists : seen ≡ Blocks listed) (refuse : step.mode ≡ Refuse) where
          its_claim : claim step.claim ≡ Blocks listed
          its_claim = sym same ∙ lists

          exceeds : (n : ℕ) → (Holds listed n × (IsLeft claim (Holds known) (take (at - done) (drop done steps)) n → ⊥))
              ↔ ExceedsAt claim S steps at n
          exceeds n = (
            λ (held, out). (step, lt, sym is, rw (its_claim, refuse) (held, λ left. out ((left_since n).1 left))),
            λ e. let over = rw (its_claim, refuse) at (ExceedsAt-step at step lt is n e) in
                (over.0, λ left. over.1 ((left_since n).0 left)),
          )

          pub step_refused : (excess : Runs)
              → IsExcess (IsLeft claim (Holds known) (take (at - done) (drop done steps))) (Blocks listed) Refuse excess
              → IsFirstRefusal claim S steps (record { step = at; fault = excess })
          step_refused excess over = record {
            excess = IsRunsOf-same excess _ _ exceeds over.runs;
            some = over.some;
            first = λ k n below e. passed.accepted k below n e;
          }

          -- a claim within what remains is what remains after it
          pub accepted_passed : (IsRunsOf (Holds listed) listed)
              → ((n : ℕ) → Holds listed n → IsLeft claim (Holds known) (take (at - done) (drop done steps)) n)
              → IsPassed (at + 1) (at + 1) listed
          accepted_passed runs inside = record {
            runs = IsRunsOf-same listed _ _
                (λ n. grind (arith, its_claim, inside n, left_since n, IsLeft-more at step lt is n)) runs;
            few = omega arith;
            accepted = below_more (λ k. (n : ℕ) → ExceedsAt claim S steps k n → ⊥) at passed.accepted
                (λ n e. let (held, out) = (exceeds n).1 e in out (inside n held));
          }

  -- ---- one result, or one first refusal

  not_before : (q r : PathRefusal Runs) → IsFirstRefusal claim S steps q → IsFirstRefusal claim S steps r
      → q.step < r.step → ⊥
  not_before q r h k below = let (n, e) = some_held _ q.fault h.excess h.some in k.first q.step n below e

  one_place : (q r : PathRefusal Runs) → IsFirstRefusal claim S steps q → IsFirstRefusal claim S steps r
      → q.step ≡ r.step
  one_place q r h k = grind (arith, not_before q r h k, not_before r q k h, cases_lt)

  one_refusal : (q r : PathRefusal Runs) → IsFirstRefusal claim S steps q → IsFirstRefusal claim S steps r → q ≡ r
  one_refusal q r h k =
      let same = one_place q r h k in
      let excess = subst (λ (at : ℕ). IsRunsOf (ExceedsAt claim S steps at) q.fault) same h.excess in
      let faults = IsRunsOf-unique (ExceedsAt claim S steps r.step) q.fault r.fault excess k.excess in
      λ i. record { step = same i; fault = faults i }

  -- so what is found is the answer
  pub path_answers : (r : Result Runs (OrMemory (PathRefusal Runs)))
      → MatchResult r (IsPathResult claim S steps) (IfRefused (IsFirstRefusal claim S steps))
      → AnswersOrMemory (λ set. set) (IsPathResult claim S steps) (IsFirstRefusal claim S steps) r
  path_answers =
      AnswersOrMemory-from_found (λ set. set) _ _
      (λ a b h k. IsRunsOf-unique (IsLeft claim S steps) a b h.runs k.runs)
      (λ a q h k. let (n, e) = some_held _ q.fault k.excess k.some in h.accepted q.step n e)
      one_refusal
