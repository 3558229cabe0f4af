-- The result of a reader of a text, defined once for all readers.
use Rattle.std.specs.Prelude.{◌≡◌, Result, Ok, Err, MatchResult}
use Rattle.rpki_text.specs.Memory.{IsMemory, IfRefused}
use Rattle.rpki_text.specs.declared.memory.OrMemory.{OrMemory}

-- The result is a value that the text has, or a fault that it has. Each value that the text has is the result, and so
-- is each fault. A text therefore has at most one value or one fault, and if it has one, the result is determined.
pub record Answers {A E : Type 0} (Has : A → Type 0) (Fails : E → Type 0) (r : Result A E) : Type 0 where
  pub found : MatchResult r Has Fails
  pub each_value : (a : A) → Has a → r ≡ Ok a
  pub each_fault : (e : E) → Fails e → r ≡ Err e

-- Answers for a reader that also allocates: the same holds, unless the error is out of memory. view gives the model of
-- a value.
pub record AnswersOrMemory {A V E : Type 0} (view : V → A) (Has : A → Type 0) (Fails : E → Type 0)
    (r : Result V (OrMemory E)) : Type 0 where
  pub found : MatchResult r (λ v. Has (view v)) (IfRefused Fails)
  pub each_value : (a : A) → Has a → MatchResult r (λ v. view v ≡ a) IsMemory
  pub each_fault : (e : E) → Fails e → MatchResult r (λ _. ⊥) (IfRefused (λ d. d ≡ e))
