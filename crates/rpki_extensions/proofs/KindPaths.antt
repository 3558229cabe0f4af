-- A path of claims, one claim after another: what it leaves, and its first refusal, with one claim more before it and
-- without its first claim.
use Rattle.rpki_extensions.proofs.Common.{List, [], arith, refl, take, ℕ, ◌+◌, ◌<◌, ◌∷◌, ◌≡◌}
use Rattle.rpki_extensions.proofs.Common.{Claim, Holds, Runs}
use Rattle.std.proofs.Common.{suc, zero, ◌↔◌, ◌≤◌}
use Rattle.std.proofs.lemmas.List.Elements.{All-cons, All-head, All-nil, All-tail}
use Rattle.rpki_chain.proofs.RunLists.{IsRunsOf-same, IsRunsOf-unique}
use Rattle.rpki_chain.specs.Paths.{Exceeds, ExceedsAt, IsExcess, IsFirstRefusal, IsIssued, IsLeft, IsPathResult, Leaves}
use Rattle.rpki_chain.specs.Runs.{IsRunsOf}
use Rattle.rpki_chain.specs.declared.path.Overclaim.{Overclaim}
use Rattle.rpki_chain.specs.declared.path.Step.{Step}
use Rattle.rpki_extensions.proofs.OutcomeLemmas.{no_runs}

-- what exceeds a set exceeds each set inside it
exceeds_same : (S U : ℕ → Type 0) (claim : Claim) (mode : Overclaim) (n : ℕ) → (U n → S n) → Exceeds S claim mode n
    → Exceeds U claim mode n
exceeds_same S U claim mode n same e = grind arith

-- what a claim leaves is a set of runs
pub issued_runs : (S : ℕ → Type 0) (claim : Claim) (mode : Overclaim) (next : Runs) → IsIssued S claim mode next
    → IsRunsOf (Holds next) next
issued_runs S claim mode next is =
    IsRunsOf-same next _ (Holds next) (λ n. ((is.runs.members n).1, (is.runs.members n).0)) is.runs

module _ {R : Type 0} (claim : R → Claim) where
  -- without claims the path leaves its root
  pub path_of_none : (root : Runs) → IsRunsOf (Holds root) root → IsPathResult claim (Holds root) [] root
  path_of_none root is = record {
    runs = IsRunsOf-same root _ _ (λ n. (λ held. (held, All-nil _), λ left. left.0)) is;
    accepted = λ at n e. omega (arith, e.1);
  }

  -- nothing else is a result without claims
  pub none_leaves_root : (root set : Runs) → IsRunsOf (Holds root) root → IsPathResult claim (Holds root) [] set
      → set ≡ root
  none_leaves_root root set is path =
      IsRunsOf-unique (Holds root) set root
      (IsRunsOf-same set (IsLeft claim (Holds root) []) (Holds root) (λ n. (λ left. left.0, λ held. (held, All-nil _)))
      path.runs) is

  -- without claims none is refused
  pub none_refused : (S : ℕ → Type 0) (at : ℕ) (excess : Runs)
      → IsFirstRefusal claim S [] (record { step = at; fault = excess }) → ⊥
  none_refused S at excess path =
      path.some (no_runs (ExceedsAt claim S [] at) excess path.excess (λ n e. omega (arith, e.1)))

  module _ (S : ℕ → Type 0) (step : Step R) where
    -- by what the first claim exceeds
    exceeds_here : (steps : List (Step R)) (n : ℕ)
        → Exceeds S (claim step.claim) step.mode n ↔ ExceedsAt claim S (step ∷ steps) 0 n
    exceeds_here steps n = (
      λ e. (step, omega arith, refl, exceeds_same S _ (claim step.claim) step.mode n (λ left. left.0) e),
      λ e. rw e.2 (exceeds_same _ S (claim e.0.claim) e.0.mode n (λ own. (own, All-nil _)) e.3),
    )

    -- the first claim is refused
    pub refused_here : (steps : List (Step R)) (excess : Runs) → IsExcess S (claim step.claim) step.mode excess
        → IsFirstRefusal claim S (step ∷ steps) (record { step = 0; fault = excess })
    refused_here steps excess is = record {
      excess = IsRunsOf-same excess _ _ (exceeds_here steps) is.runs;
      some = is.some;
      first = λ at n below e. omega (arith, below);
    }

    -- the first claim of a path that refuses it
    pub refused_in_path : (steps : List (Step R)) (excess : Runs)
        → IsFirstRefusal claim S (step ∷ steps) (record { step = 0; fault = excess })
        → IsExcess S (claim step.claim) step.mode excess
    refused_in_path steps excess path = record {
      runs = IsRunsOf-same excess _ _ (λ n. ((exceeds_here steps n).1, (exceeds_here steps n).0)) path.excess;
      some = path.some;
    }

    -- the first claim of a path that accepts it
    pub issued_first : (steps : List (Step R)) (next : Runs)
        → IsRunsOf (λ n. S n × Leaves (claim step.claim) n) next
        → ((n : ℕ) → ExceedsAt claim S (step ∷ steps) 0 n → ⊥) → IsIssued S (claim step.claim) step.mode next
    issued_first steps next runs accepted =
        record { runs = runs; accepted = λ n e. accepted n ((exceeds_here steps n).0 e) }

    module _ (next : Runs) (is : IsIssued S (claim step.claim) step.mode next) where
      -- what the path leaves, and by what it exceeds, with the first claim before it
      left_more : (steps : List (Step R)) (n : ℕ) → IsLeft claim (Holds next) steps n ↔ IsLeft claim S (step ∷ steps) n
      left_more steps n = (
        λ (held, all).
            let (own, leaves) = (is.runs.members n).0 held in
            (own, All-cons (λ s. Leaves (claim s.claim) n) step steps leaves all),
        λ (own, all). (
          (is.runs.members n).1 (own, All-head (λ s. Leaves (claim s.claim) n) step steps all),
          All-tail (λ s. Leaves (claim s.claim) n) step steps all,
        ),
      )

      exceeds_more : (steps : List (Step R)) (at n : ℕ)
          → ExceedsAt claim (Holds next) steps at n ↔ ExceedsAt claim S (step ∷ steps) (suc at) n
      exceeds_more steps at n = (
        λ e. (
          e.0,
          omega (arith, e.1),
          e.2,
          exceeds_same _ _ (claim e.0.claim) e.0.mode n (left_more (take at steps) n).1 e.3,
        ),
        λ e. (
          e.0,
          omega (arith, e.1),
          e.2,
          exceeds_same _ _ (claim e.0.claim) e.0.mode n (left_more (take at steps) n).0 e.3,
        ),
      )

      -- the first claim is accepted, and so are the claims that follow, up to an index
      pub accepted_more : (steps : List (Step R)) (bound more : ℕ) → more ≤ bound + 1
          → ((k n : ℕ) → k < bound → ExceedsAt claim (Holds next) steps k n → ⊥) → (k n : ℕ) → k < more
          → ExceedsAt claim S (step ∷ steps) k n → ⊥
      accepted_more steps bound more one accepted zero n below e = is.accepted n ((exceeds_here steps n).1 e)
      accepted_more steps bound more one accepted (suc k) n below e =
          accepted k n (omega (arith, below, one)) ((exceeds_more steps k n).1 e)

      -- the first claim is accepted
      pub accepted_first : (steps : List (Step R)) (k n : ℕ) → k < 1 → ExceedsAt claim S (step ∷ steps) k n → ⊥
      accepted_first steps = accepted_more steps 0 1 (omega arith) (λ k n below e. omega (arith, below))

      -- the result of the path
      pub path_more : (steps : List (Step R)) (set : Runs) → IsPathResult claim (Holds next) steps set
          → IsPathResult claim S (step ∷ steps) set
      path_more steps set path = record {
        runs = IsRunsOf-same set _ _ (left_more steps) path.runs;
        accepted = λ at n.
            accepted_more steps at (at + 1) (omega arith) (λ k m below. path.accepted k m) at n (omega arith);
      }

      -- the first refusal of the path
      pub refused_more : (steps : List (Step R)) (at : ℕ) (excess : Runs)
          → IsFirstRefusal claim (Holds next) steps (record { step = at; fault = excess })
          → IsFirstRefusal claim S (step ∷ steps) (record { step = suc at; fault = excess })
      refused_more steps at excess path = record {
        excess = IsRunsOf-same excess _ _ (exceeds_more steps at) path.excess;
        some = path.some;
        first = accepted_more steps at (suc at) (omega arith) path.first;
      }

      -- the claims that follow are accepted, up to an index
      pub accepted_rest : (steps : List (Step R)) (bound more : ℕ) → bound + 1 ≤ more
          → ((k n : ℕ) → k < more → ExceedsAt claim S (step ∷ steps) k n → ⊥) → (k n : ℕ) → k < bound
          → ExceedsAt claim (Holds next) steps k n → ⊥
      accepted_rest steps bound more one accepted k n below e =
          accepted (suc k) n (omega (arith, below, one)) ((exceeds_more steps k n).0 e)

      -- the result of the path of the claims that follow
      pub path_rest : (steps : List (Step R)) (set : Runs) → IsPathResult claim S (step ∷ steps) set
          → IsPathResult claim (Holds next) steps set
      path_rest steps set path = record {
        runs = IsRunsOf-same set _ _ (λ n. ((left_more steps n).1, (left_more steps n).0)) path.runs;
        accepted = λ at n e. path.accepted (suc at) n ((exceeds_more steps at n).0 e);
      }

      -- its first refusal
      pub refused_rest : (steps : List (Step R)) (at : ℕ) (excess : Runs)
          → IsFirstRefusal claim S (step ∷ steps) (record { step = suc at; fault = excess })
          → IsFirstRefusal claim (Holds next) steps (record { step = at; fault = excess })
      refused_rest steps at excess path = record {
        excess = IsRunsOf-same excess _ _ (λ n. ((exceeds_more steps at n).1, (exceeds_more steps at n).0)) path.excess;
        some = path.some;
        first = accepted_rest steps at (suc at) (omega arith) path.first;
      }
