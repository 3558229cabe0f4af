-- A reader that goes on to the least number of what another reader answers.
use Rattle.rpki_ip.proofs.Common.{Err, Ok, arith, ℕ, IsFirstOf}
use Rattle.rpki_text.specs.Reading.{Answers}

module _ {X E : Type 0} (first : X → ℕ) (Writes : X → Type 0) (Fails : E → Type 0) where
  -- an answer, and its least number
  pub first_of_ok : (x : X) → Answers Writes Fails (Ok x) → Answers (IsFirstOf first Writes) Fails (Ok (first x))
  first_of_ok x h = grind (arith, h.each_value)

  -- a fault stays
  pub first_of_err : (e : E) → Answers Writes Fails (Err e) → Answers (IsFirstOf first Writes) Fails (Err e)
  first_of_err e h = grind arith
