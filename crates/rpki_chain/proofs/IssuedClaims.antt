-- What one claim leaves, and by what it exceeds: each of its outcomes, and that there is one.
use Rattle.rpki_chain.proofs.Common.{[], arith, refl, ℕ, ◌∷◌, ◌≡◌, ◌≢◌, ◌≤◌, le_refl, All-head, false≢true, IsErrAnd}
use Rattle.rpki_chain.proofs.Common.{MatchResult}
use Rattle.rpki_chain.proofs.Common.{Covers-nil, Covers-head, AnswersOrMemory-from_found, IfRefused, OrMemory, Memory}
use Rattle.rpki_chain.proofs.Common.{Refused, Claim, IsDifference, IsIntersection, Exceeds, IsExcess, IsIssued, Leaves}
use Rattle.rpki_chain.proofs.Common.{Lists}
use Rattle.rpki_chain.proofs.Common.{Holds, IsRunsOf, Runs, Blocks, Overclaim, Refuse, Trim}
use Rattle.std.specs.Prelude.{◌↔◌, Err, IfErr, IfOk, IsOk, Ok, Result}
use Rattle.rpki_text.specs.Reading.{AnswersOrMemory}
use Rattle.rpki_chain.proofs.SetLawLemmas.{empty_set, inside_where_none}
use Rattle.rpki_chain.proofs.RunLists.{IsRunsOf-same, IsRunsOf-unique}

-- a refusal is handed on as it is
pub handed_on : {T E : Type 0} (P : T → Type 0) (Q : E → Type 0) (refusal : OrMemory E) (r : Result T (OrMemory E))
    → IsErrAnd r (λ e. e ≡ refusal) → IfRefused Q refusal → MatchResult r P (IfRefused Q)
handed_on P Q refusal r is h = grind arith

-- no runs hold no number
pub none_held : (runs : Runs) (n : ℕ) → runs ≡ [] → Holds runs n → ⊥
none_held runs n none held = grind (arith, Covers-nil (λ x. x) n)

-- and some runs hold one
pub some_held : (S : ℕ → Type 0) (runs : Runs) → IsRunsOf S runs → runs ≢ [] → (n : ℕ) × S n
some_held S [] h some = absurd (some refl)
some_held S (b ∷ runs) h some =
    let ordered : b.0 ≤ b.1 = All-head (λ (x : ℕ × ℕ). x.0 ≤ x.1) b runs h.ordered in
    (b.0, (h.members b.0).0 (Covers-head (λ x. x) b runs b.0 (le_refl b.0, ordered)))

-- a claim that lists nothing where it may be refused exceeds nothing
pub nothing_exceeds : (S : ℕ → Type 0) (claim : Claim) (mode : Overclaim)
    → (mode ≡ Refuse → (n : ℕ) → Lists claim n → ⊥)
    → (n : ℕ) → Exceeds S claim mode n → ⊥
nothing_exceeds S claim Refuse none n e = none refl n e.0
nothing_exceeds S claim Trim none n e = e

module _ (set : Runs) (mode : Overclaim) where
  module _ (listed : Runs) where
    pub excess_refused : (refusal : OrMemory Runs) → mode ≡ Refuse → IfRefused (IsDifference listed set) refusal
        → (((n : ℕ) → Holds listed n → Holds set n) → ⊥)
        → IfRefused (IsExcess (Holds set) (Blocks listed) mode) refusal
    excess_refused (Refused excess) refuse over not_inside = rw refuse (record {
      runs = over;
      some = λ none. not_inside ((inside_where_none listed set excess over).0 none);
    })
    excess_refused (Memory error) refuse over not_inside = tt

-- a missing claim leaves the numbers of the empty set alone
pub missing_leaves : (set : Runs) (P : Type 0) → IsRunsOf (Holds set) set → P ↔ (set ≡ [])
    → P ↔ ((n : ℕ) → Holds set n → ⊥)
missing_leaves set P runs h =
    (λ p n held. none_held set n (h.0 p) held, λ none. h.1 (empty_set (Holds set) set runs none))

-- what a set and a listed one have in common is what the claim leaves
pub common_left : {E : Type 0} (set listed : Runs) (r : Result Runs E) → IfOk r (IsIntersection listed set)
    → IfOk r (IsRunsOf (λ n. Holds set n × Holds listed n))
common_left set listed (Ok both) h = IsRunsOf-same both _ _ (λ n. (λ (a, b). (b, a), λ (a, b). (b, a))) h
common_left set listed (Err e) h = tt

-- what is listed lies within what is left, or exceeds it
pub within_or_exceeds : {X : Type 0} (S : ℕ → Type 0) (listed left : Runs) (r : Result X (OrMemory Runs))
    → IsRunsOf S left → IsOk r ↔ ((n : ℕ) → Holds listed n → Holds left n)
    → IfErr r (IfRefused (IsDifference listed left))
    → MatchResult r (λ x. (n : ℕ) → Holds listed n → S n) (IfRefused (IsExcess S (Blocks listed) Refuse))
within_or_exceeds S listed left (Ok x) runs ok h = λ n held. (runs.members n).0 (ok.0 refl n held)
within_or_exceeds S listed left (Err (Memory e)) runs ok h = tt
within_or_exceeds S listed left (Err (Refused rest)) runs ok h = record {
  runs = IsRunsOf-same rest _ _ (λ n. grind (arith, runs.members n)) h;
  some = λ none. false≢true (ok.1 ((inside_where_none listed left rest h).0 none));
}

-- a claim leaves one set or is refused by one, so what is found is the answer
pub issued_answers : (S : ℕ → Type 0) (claim : Claim) (mode : Overclaim) (r : Result Runs (OrMemory Runs))
    → MatchResult r (IsIssued S claim mode) (IfRefused (IsExcess S claim mode))
    → AnswersOrMemory (λ set. set) (IsIssued S claim mode) (IsExcess S claim mode) r
issued_answers S claim mode =
    AnswersOrMemory-from_found (λ set. set) _ _
    (λ a b h k. IsRunsOf-unique (λ n. S n × Leaves claim n) a b h.runs k.runs)
    (λ a b h k. let (n, e) = some_held (Exceeds S claim mode) b k.runs k.some in h.accepted n e)
    (λ a b h k. IsRunsOf-unique (Exceeds S claim mode) a b h.runs k.runs)
