-- Lemmas on the steps of a run that writes answers while it reads.
use Rattle.lines_engine.proofs.Common.{Err, List, Ok, Option, [], append_assoc, arith, length, length-append, refl, suc}
use Rattle.lines_engine.proofs.Common.{ap, append-nil, IsAtEnd}
use Rattle.lines_engine.proofs.Common.{ℕ, ◌++◌, ◌<◌, ◌∷◌, ◌≡◌, ◌≢◌, Consumes, IfErr, IfSome, OnOk, Result}
use Rattle.lines_engine.proofs.Common.{HasNo, IsCutAt, lines_of, AnswersBut, AreAnswered, HasAnswered}
use Rattle.lines_engine.proofs.Common.{RunError, Memory}
use Rattle.std.proofs.Math.ListN.{get_or-append}
use Rattle.std.proofs.Math.Seq.{get_or-append_right}
use Rattle.std.proofs.lemmas.Bool.{eqb-true}
use Rattle.lines_engine.proofs.RunLemmas.{answered_none, answered_then, then_are}

-- a byte before a text belongs to the first line of the text, unless the byte is a line feed
line_on : (b : ℕ) (text line : List ℕ) (others : List (List ℕ)) → b ≢ 10 → lines_of text ≡ line ∷ others
    → lines_of (b ∷ text) ≡ (b ∷ line) ∷ others
line_on b text line others none are = grind (arith, eqb-true)

-- a text without a line feed is a line if a line feed follows it
pub lines-ended : (line behind : List ℕ) → HasNo 10 line → lines_of (line ++ 10 ∷ behind) ≡ line ∷ lines_of behind
lines-ended [] behind none = refl
lines-ended (b ∷ line) behind none =
    grind (arith, line_on, none 0, lines-ended line behind (λ k small. none (suc k) (omega arith)))

-- a text that is not empty has a line
pub lines-some : (text : List ℕ) → 0 < length text → lines_of text ≢ []
lines-some [] some none = absurd (omega arith)
lines-some (b ∷ text) some none = grind (arith)

-- two texts without a line feed, joined, have no line feed
pub none_both : (text others : List ℕ) → HasNo 10 text → HasNo 10 others → HasNo 10 (text ++ others)
none_both text others first second k small =
    grind (arith, get_or-append, get_or-append_right, length-append)

-- a part without a line feed, and the line of the piece after it, are the first line of both texts joined
pub lines-joined : (part piece line behind more : List ℕ) → HasNo 10 part → IsCutAt 10 piece line behind
    → lines_of (part ++ (piece ++ more)) ≡ (part ++ line) ∷ lines_of (behind ++ more)
lines-joined part piece line behind more none cut = grind (arith, append_assoc, lines-ended, none_both)

module _ (Is : List ℕ → List ℕ → Type 0) where
  -- nothing is read
  pub but_none : (a input : Option (List ℕ)) → AnswersBut Is a a input input []
  but_none a input = grind (arith, answered_none)

  -- a byte of a line is left that was not answered
  pub left_are : (a : Option (List ℕ)) (part rest more : List ℕ) (others : List (List ℕ))
      (r : Result (Unit {0}) RunError) → r ≡ Err Memory → 0 < length rest
      → AreAnswered Is a a (lines_of (part ++ (rest ++ more))) others r
  left_are a part rest more others r is some =
      rw is (_, lines-some (part ++ (rest ++ more)) (grind (arith, length-append)), answered_none Is a _)

  -- bytes without an end were kept after a part of a line, or there was no memory for them
  pub kept_are : (a : Option (List ℕ)) (part rest kept : List ℕ) (r : Result (Unit {0}) RunError)
      → OnOk r (kept ≡ part ++ rest) → IfErr r (λ error. (error ≡ Memory) × (0 < length rest)) → (more : List ℕ)
      → AreAnswered Is a a (lines_of (part ++ (rest ++ more))) (lines_of (kept ++ more)) r
  kept_are a part rest kept (Ok x) is failed more = rw (is, append_assoc) (answered_none Is a _)
  kept_are a part rest kept (Err e) is failed more =
      left_are a part rest more [] (Err e) (ap Err failed.0) failed.1

  -- a piece was read
  module _ (a b input left next : Option (List ℕ)) (part piece : List ℕ) (had : AnswersBut Is a b input left part)
      (read : Consumes left next piece) where
    -- and the lines that end in it were answered
    pub but_more : (c : Option (List ℕ)) (others : List ℕ)
        → ((more : List ℕ) → HasAnswered Is b c (lines_of (part ++ (piece ++ more))) (lines_of (others ++ more)) [])
        → AnswersBut Is a c input next others
    but_more c others each = grind (arith, answered_then)

    -- or not all of them
    pub but_are : (c : Option (List ℕ)) (rest : List (List ℕ)) (r : Result (Unit {0}) RunError)
        → ((more : List ℕ) → AreAnswered Is b c (lines_of (part ++ (piece ++ more))) rest r)
        → IfSome input (λ bytes. AreAnswered Is a c (lines_of bytes) rest r)
    but_are c rest r each = grind (arith, then_are)

  -- all was read, and then the line without an end was answered
  pub last_then : (a b c input left : Option (List ℕ)) (part : List ℕ) (r : Result (Unit {0}) RunError)
      → AnswersBut Is a b input left part → IsAtEnd left → AreAnswered Is b c (lines_of part) [] r
      → IfSome input (λ bytes. AreAnswered Is a c (lines_of bytes) [] r)
  last_then a b c input left part r had end are = grind (arith, append-nil, then_are)
