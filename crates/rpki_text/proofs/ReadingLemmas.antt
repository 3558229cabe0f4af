-- Where a text has one value or one fault at most, an answer that is right decides its reader.
use Rattle.rpki_text.proofs.Common.{Err, Ok, Result, arith, ◌≡◌, Answers}
use Rattle.std.specs.Prelude.{MatchResult}

-- by two answers: those that are right are one
pub answers_by_one : {A E : Type 0} {Has : A → Type 0} {Fails : E → Type 0}
    → ((r s : Result A E) → MatchResult r Has Fails → MatchResult s Has Fails → r ≡ s) → (r : Result A E)
    → MatchResult r Has Fails → Answers Has Fails r
answers_by_one one r found = record {
  found = found;
  each_value = λ a h. one r (Ok a) found h;
  each_fault = λ e h. one r (Err e) found h;
}

-- by values and faults: two values are one, two faults are one, and no text has both
pub Answers-from_found : {A E : Type 0} {Has : A → Type 0} {Fails : E → Type 0} (r : Result A E)
    → MatchResult r Has Fails → ((a b : A) → Has a → Has b → a ≡ b) → ((a : A) (e : E) → Has a → Fails e → ⊥)
    → ((d e : E) → Fails d → Fails e → d ≡ e) → Answers Has Fails r
Answers-from_found r found one apart same = grind (arith)
