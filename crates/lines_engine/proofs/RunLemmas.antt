-- Steps of a run.
use Rattle.lines_engine.proofs.Common.{Bool, Err, List, None, Ok, Option, Some, [], append-nil, append_assoc, arith}
use Rattle.lines_engine.proofs.Common.{drop, length, refl, take, true, ℕ, ◌++◌, ◌-◌, ◌∷◌, ◌≡◌, ◌≢◌, flat_map-append}
use Rattle.lines_engine.proofs.Common.{Appends, IfErr, IfSome, IsAtEnd, Keeps, OnOk, Result}
use Rattle.lines_engine.proofs.Common.{lines_of, AnswersAll, AnswersFirst, AreAnswered, BreaksOff, HasAnswered}
use Rattle.lines_engine.proofs.Common.{HasWritten}
use Rattle.lines_engine.proofs.Common.{IsLineWritten, IsRun, MarksWriter, RunError, Memory, Read, Write, as_line}
use Rattle.std.specs.List.{AllZip}
use Rattle.std.proofs.lemmas.List.{take-append-drop, length-drop}
use Rattle.std.proofs.Math.Seq.{take-length}

-- two writes in a row
appends_both : (a b c : Option (List ℕ)) (xs ys : List ℕ) → Appends a b xs → Appends b c ys → Appends a c (xs ++ ys)
appends_both a b c xs ys first second = grind (arith, append_assoc)

-- nothing is written yet
pub written_none : (a : Option (List ℕ)) (bytes : List ℕ) → HasWritten a a bytes bytes
written_none a bytes = grind (arith, append-nil)

-- a call keeps what was written
pub written_kept : (a b c : Option (List ℕ)) (all unwritten : List ℕ) → HasWritten a b all unwritten → Keeps b c
    → HasWritten a c all unwritten
written_kept a b c all unwritten had kept = grind (arith)

-- of what is left some is written
pub written_then : (a b c : Option (List ℕ)) (all bytes rest unwritten : List ℕ) → HasWritten a b all (bytes ++ rest)
    → HasWritten b c bytes unwritten → HasWritten a c all (unwritten ++ rest)
written_then a b c all bytes rest unwritten had more = grind (arith, append_assoc, appends_both)

-- a beginning of the first of two texts is one of both
pub written_first : (a b : Option (List ℕ)) (bytes more unwritten : List ℕ) → HasWritten a b bytes unwritten
    → HasWritten a b (bytes ++ more) (unwritten ++ more)
written_first a b bytes more unwritten had = grind (arith, append_assoc)

-- all of the first of two texts, and a beginning of the second
pub written_both : (a b c : Option (List ℕ)) (bytes more unwritten : List ℕ) → HasWritten a b bytes []
    → HasWritten b c more unwritten → HasWritten a c (bytes ++ more) unwritten
written_both a b c bytes more unwritten had next = grind (arith, append-nil, append_assoc, appends_both)

-- a text and an end of line were made, and some of them written
pub written_line : (a b : Option (List ℕ)) (text bytes unwritten : List ℕ) → bytes ≡ as_line text
    → HasWritten a b bytes unwritten → HasWritten a b (as_line text) unwritten
written_line a b text bytes unwritten is wrote = grind (arith)

-- a write takes some of what is left, which a range from there on then is
pub written_more : (a b c : Option (List ℕ)) (bytes rest : List ℕ) (count : ℕ) → HasWritten a b bytes rest
    → Appends b c (take count rest) → HasWritten a c bytes (take (length rest - count) (drop count rest))
written_more a b c bytes rest count had wrote = record {
  written = had.written ++ take count rest;
  bytes_are =
      rw (← length-drop count rest, take-length (drop count rest), append_assoc, take-append-drop) had.bytes_are;
  wrote = appends_both a b c had.written (take count rest) had.wrote wrote;
}

-- a list with an element has one in front of others
some_before : (rest others : List (List ℕ)) → rest ≢ [] → rest ++ others ≢ []
some_before [] others some none = some refl
some_before (x ∷ rest) others some none = cc

module _ (Is : List ℕ → List ℕ → Type 0) where
  -- answers to the lines of two lists, one after the other
  AllZip-append : (xs ys zs ws : List (List ℕ)) → AllZip Is xs ys → AllZip Is zs ws → AllZip Is (xs ++ zs) (ys ++ ws)
  AllZip-append [] [] zs ws first second = second
  AllZip-append (x ∷ xs) (y ∷ ys) zs ws first second = (first.0, AllZip-append xs ys zs ws first.1 second)
  AllZip-append xs ys zs ws first second = absurd first

  -- some lines are answered, and then some of the others
  pub answered_then : (a b c : Option (List ℕ)) (lines others rest : List (List ℕ)) (unwritten : List ℕ)
      → HasAnswered Is a b lines others [] → HasAnswered Is b c others rest unwritten
      → HasAnswered Is a c lines rest unwritten
  answered_then a b c lines others rest unwritten had more =
      grind (arith, AllZip-append, append_assoc, flat_map-append, written_both)

  -- one line is answered
  pub answered_one : (a b : Option (List ℕ)) (line text : List ℕ) (rest : List (List ℕ)) (unwritten : List ℕ)
      → Is line text → HasWritten a b (as_line text) unwritten → HasAnswered Is a b (line ∷ rest) rest unwritten
  answered_one a b line text rest unwritten is wrote = record {
    answered = line ∷ [];
    texts = text ∷ [];
    lines_are = refl;
    are_answers = (is, tt);
    wrote = rw append-nil wrote;
  }

  -- a call keeps what was written
  pub answered_kept : (a b c : Option (List ℕ)) (lines rest : List (List ℕ)) (unwritten : List ℕ)
      → HasAnswered Is a b lines rest unwritten → Keeps b c → HasAnswered Is a c lines rest unwritten
  answered_kept a b c lines rest unwritten had kept = grind (arith, written_kept)

  -- nothing is answered yet
  pub answered_none : (a : Option (List ℕ)) (lines : List (List ℕ)) → HasAnswered Is a a lines lines []
  answered_none a lines = record {
    answered = [];
    texts = [];
    lines_are = refl;
    are_answers = tt;
    wrote = written_none a [];
  }

  -- nothing was written of any input's answers
  pub unanswered : (input a : Option (List ℕ)) → IfSome input (AnswersFirst Is a a)
  unanswered None a = tt
  unanswered (Some bytes) a = (lines_of bytes, answered_none a (lines_of bytes), λ none. none)

  -- an answer to a line was made, and then written
  pub line_are : (a b : Option (List ℕ)) (line text : List ℕ) (r : Result (Unit {0}) RunError) → Is line text
      → IsLineWritten a b text r → (rest : List (List ℕ)) → AreAnswered Is a b (line ∷ rest) rest r
  line_are a b line text (Ok x) is wrote rest = answered_one a b line text rest [] is wrote
  line_are a b line text (Err Memory) is same rest = (line ∷ rest, (λ none. cc), rw same (answered_none a _))
  line_are a b line text (Err Write) is (unwritten, wrote) rest =
      (rest, (unwritten, answered_one a b line text rest unwritten is wrote))
  line_are a b line text (Err Read) is wrote rest = absurd wrote

  -- there was no memory for an answer to the first line
  pub none_are : (a : Option (List ℕ)) (line : List ℕ) (others rest : List (List ℕ)) (r : Result (Unit {0}) RunError)
      → r ≡ Err Memory → AreAnswered Is a a (line ∷ others) rest r
  none_are a line others rest r is = rw is (line ∷ others, (λ none. cc), answered_none _ _)

  -- some lines were answered, and then the others
  pub then_are : (a b c : Option (List ℕ)) (lines others rest : List (List ℕ)) (r : Result (Unit {0}) RunError)
      → HasAnswered Is a b lines others [] → AreAnswered Is b c others rest r → AreAnswered Is a c lines rest r
  then_are a b c lines others rest (Ok x) had are = answered_then a b c lines others rest [] had are
  then_are a b c lines others rest (Err Memory) had (left, some, are) =
      (left, some, answered_then a b c lines others left [] had are)
  then_are a b c lines others rest (Err Write) had (left, (unwritten, are)) =
      (left, (unwritten, answered_then a b c lines others left unwritten had are))
  then_are a b c lines others rest (Err Read) had are = absurd are

  -- lines were answered, and others after them are not
  pub before_are : (a b : Option (List ℕ)) (lines rest others : List (List ℕ)) (r : Result (Unit {0}) RunError)
      → AreAnswered Is a b lines rest r → AreAnswered Is a b (lines ++ others) (rest ++ others) r
  before_are a b lines rest others (Ok x) are = grind (arith, append_assoc)
  before_are a b lines rest others (Err Memory) (left, some, are) =
      (left ++ others, some_before left others some, grind (arith, append_assoc))
  before_are a b lines rest others (Err Write) (left, (unwritten, are)) =
      (left ++ others, (unwritten, grind (arith, append_assoc)))
  before_are a b lines rest others (Err Read) are = absurd are

-- ---- how a run ends

module _ {R W : Type 0} {read_mark : R → Bool} {left : R → Option (List ℕ)} {mark : W → Bool}
    {written : W → Option (List ℕ)} {is_flushed : W → Bool} {Is : List ℕ → List ℕ → Type 0} {AfterRead : Type 0}
    {reader reader' : R} {w u : W} (same : read_mark reader' ≡ read_mark reader) where
  -- it was out of memory, or a write failed
  pub run_failed : (e : RunError) (r : Result (Unit {0}) RunError) → r ≡ Err e → MarksWriter (mark w) (mark u) (Err e)
      → IfSome (left reader) (λ bytes. BreaksOff Is (written w) (written u) (lines_of bytes) e)
      → IsRun read_mark left mark written is_flushed Is AfterRead reader reader' w u r
  run_failed e r is marks broke = grind (arith)

  -- all was answered, and then the writer was flushed
  pub run_flushed : (v : W) (r : Result (Unit {0}) RunError) → mark v ≡ mark w → IsAtEnd (left reader')
      → IfSome (left reader) (AnswersAll Is (written w) (written v)) → OnOk r (mark u ≡ mark v)
      → OnOk r (is_flushed u ≡ true) → IfErr r (λ e. (e ≡ Write) × (mark u ≡ true)) → Keeps (written v) (written u)
      → IsRun read_mark left mark written is_flushed Is AfterRead reader reader' w u r
  run_flushed v r unmarked whole all kept_mark flushed failed kept = grind (arith, answered_kept)
