-- At most one outcome: of what is decided in steps, if each step has at most one.
use Rattle.rpki_extensions.proofs.Common.{[], ap, arith, inr, refl, sym, ℕ, ◌∙◌, ◌∷◌, ◌≡◌, Claim, Holds, Runs}
use Rattle.std.proofs.Common.{inl, ◌≤◌, ◌⊎◌}
use Rattle.rpki_chain.proofs.RunLists.{IsRunsOf-unique}
use Rattle.rpki_chain.specs.Paths.{Exceeds, IsExcess, IsIssued, Leaves}
use Rattle.rpki_chain.specs.Runs.{IsRunsOf}
use Rattle.rpki_chain.specs.declared.path.Overclaim.{Overclaim}
use Rattle.rpki_extensions.specs.Outcomes.{OneOutcome}

-- all things for which a fact holds are equal
abbrev pub AtMostOne : {E : Type 0} → (E → Type 0) → Type 0
AtMostOne {E} P = (d e : E) → P d → P e → d ≡ e

-- values and refusals that are those of one outcome
pub outcome_by : {V E : Type 0} {Has More : V → Type 0} {Fails Fewer : E → Type 0} → OneOutcome More Fewer
    → ((a : V) → Has a → More a) → ((e : E) → Fails e → Fewer e) → OneOutcome Has Fails
outcome_by one values refusals = record {
  one_value = λ a b h k. one.one_value a b (values a h) (values b k);
  one_refusal = λ d e h k. one.one_refusal d e (refusals d h) (refusals e k);
  apart = λ a e h k. one.apart a e (values a h) (refusals e k);
}

-- refusals that are those of one outcome, as other errors
pub as_errors : {V F E : Type 0} {Has : V → Type 0} {P : F → Type 0} {Fails : E → Type 0} (wrap : F → E)
    → OneOutcome Has P → ((e : E) → Fails e → (f : F) × (e ≡ wrap f) × P f) → OneOutcome Has Fails
as_errors wrap one unwrap = record {
  one_value = one.one_value;
  one_refusal = λ d e h k.
      let (f, same, is) = unwrap d h in
      let (g, also, so) = unwrap e k in
      same ∙ ap wrap (one.one_refusal f g is so) ∙ sym also;
  apart = λ a e h k. let (f, same, is) = unwrap e k in one.apart a f h is;
}

-- a refusal at once, or else one after a value
pub or_else : {E X : Type 0} {P Q : E → Type 0} → AtMostOne P → AtMostOne Q → ((e : E) → P e → X → ⊥)
    → AtMostOne (λ e. P e ⊎ (X × Q e))
or_else first later apart d e (inl h) (inl k) = first d e h k
or_else first later apart d e (inl h) (inr (x, k)) = absurd (apart d h x)
or_else first later apart d e (inr (x, h)) (inl k) = absurd (apart e k x)
or_else first later apart d e (inr (x, h)) (inr (y, k)) = later d e h k

-- a value after another, and a refusal of the first or of the second
pub and_then : {V W E : Type 0} {Has : V → Type 0} {Next : V → W → Type 0} {Fails : E → Type 0}
    {NextFails : V → E → Type 0} → OneOutcome Has Fails
    → ((v : V) → Has v → OneOutcome (Next v) (NextFails v))
    → OneOutcome (λ w. (v : V) × Has v × Next v w) (λ e. Fails e ⊎ ((v : V) × Has v × NextFails v e))
and_then {V} {W} {E} {Has} {Next} {Fails} {NextFails} one next = record {
  one_value = λ a b (v, is, h) (w, also, k). (next v is).one_value a b h (rw (one.one_value v w is also) k);
  one_refusal = one_refusal;
  apart = apart;
}
  where
    one_refusal : AtMostOne (λ e. Fails e ⊎ ((v : V) × Has v × NextFails v e))
    one_refusal d e (inl h) (inl k) = one.one_refusal d e h k
    one_refusal d e (inl h) (inr (v, is, k)) = absurd (one.apart v d is h)
    one_refusal d e (inr (v, is, h)) (inl k) = absurd (one.apart v e is k)
    one_refusal d e (inr (v, is, h)) (inr (w, also, k)) =
        (next v is).one_refusal d e h (rw (one.one_value v w is also) k)

    apart : (a : W) (e : E) → (v : V) × Has v × Next v a → Fails e ⊎ ((v : V) × Has v × NextFails v e) → ⊥
    apart a e (v, is, h) (inl k) = one.apart v e is k
    apart a e (v, is, h) (inr (w, also, k)) = (next v is).apart a e h (rw (one.one_value v w is also) k)

-- ---- one claim

-- no runs hold no number
pub none_held : (n : ℕ) → Holds [] n → ⊥
none_held n (k, x, lt, e, w) = omega arith

-- runs of a set without numbers are no runs
pub no_runs : (S : ℕ → Type 0) (runs : Runs) → IsRunsOf S runs → ((n : ℕ) → S n → ⊥) → runs ≡ []
no_runs S [] is none = refl
no_runs S (run ∷ runs) is none =
    let within : (run.0 ≤ run.0) × (run.0 ≤ run.1) = (omega arith, is.ordered 0 run (omega arith)) in
    absurd (none run.0 ((is.members run.0).0 (0, run, omega arith, refl, within)))

-- what a claim leaves, or by what it exceeds
pub one_issued : (S : ℕ → Type 0) (claim : Claim) (mode : Overclaim)
    → OneOutcome (IsIssued S claim mode) (IsExcess S claim mode)
one_issued S claim mode = record {
  one_value = λ a b h k. IsRunsOf-unique (λ n. S n × Leaves claim n) a b h.runs k.runs;
  one_refusal = λ d e h k. IsRunsOf-unique (Exceeds S claim mode) d e h.runs k.runs;
  apart = λ a e h k. k.some (no_runs (Exceeds S claim mode) e k.runs h.accepted);
}
