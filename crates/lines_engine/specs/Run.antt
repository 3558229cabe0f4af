-- Definitions of the bytes that a run writes. `old` and `new` are the known bytes of the writer before and after the
-- run. `Is line text` holds if the text is an answer to the line.
use Rattle.std.specs.Prelude.{◌≡◌, ◌≢◌, ℕ, Bool, true, List, [], ◌∷◌, ◌++◌, Option, None, Some, IfSome, ⊤}
use Rattle.std.specs.Prelude.{MatchResult, Result, Ok, Err, OnOk, IsErrOf}
use Rattle.std.specs.List.{AllZip, flat_map}
use Rattle.std.specs.Io.KnownBytes.{Appends, IsAtEnd}
use Rattle.rpki_text.specs.Cuts.{HasNo}
use Rattle.rpki_text.specs.Lines.{lines_of}
use Rattle.lines_engine.specs.declared.error.RunError.{RunError}
use Rattle.lines_engine.specs.declared.error.RunError.TheVariants.{Read, Write, Memory}

-- a text and the end of line after it
abbrev pub as_line : List ℕ → List ℕ
as_line text = text ++ 10 ∷ []

-- These bytes were written, except `unwritten` at their end, and nothing else was written.
pub record HasWritten (old new : Option (List ℕ)) (bytes unwritten : List ℕ) : Type 0 where
  pub written : List ℕ
  pub bytes_are : bytes ≡ written ++ unwritten
  pub wrote : Appends old new written

-- These lines were answered in order, except `rest` at their end. The answers were written as lines, except `unwritten`
-- at their end.
pub record HasAnswered (Is : List ℕ → List ℕ → Type 0) (old new : Option (List ℕ)) (lines rest : List (List ℕ))
    (unwritten : List ℕ) : Type 0 where
  pub answered : List (List ℕ)
  pub texts : List (List ℕ)
  pub lines_are : lines ≡ answered ++ rest
  pub are_answers : AllZip Is answered texts
  pub wrote : HasWritten old new (flat_map as_line texts) unwritten

-- the answers to all lines of the input were written whole
abbrev pub AnswersAll : (List ℕ → List ℕ → Type 0) → Option (List ℕ) → Option (List ℕ) → List ℕ → Type 0
AnswersAll Is old new input = HasAnswered Is old new (lines_of input) [] []

-- The answers to some first lines of the input were written whole. They are not the answers to all lines, unless the
-- input has no line.
abbrev pub AnswersFirst : (List ℕ → List ℕ → Type 0) → Option (List ℕ) → Option (List ℕ) → List ℕ → Type 0
AnswersFirst Is old new input =
    (rest : List (List ℕ)) × HasAnswered Is old new (lines_of input) rest [] × (rest ≡ [] → lines_of input ≡ [])

-- a beginning of the answers to the lines of the input was written
abbrev pub BeginsAnswers : (List ℕ → List ℕ → Type 0) → Option (List ℕ) → Option (List ℕ) → List ℕ → Type 0
BeginsAnswers Is old new input =
    (rest : List (List ℕ)) × ((unwritten : List ℕ) × HasAnswered Is old new (lines_of input) rest unwritten)

-- The mark of a writer before and after a call that writes: only a write that fails sets it. No call reads.
abbrev pub MarksWriter : Bool → Bool → Result (Unit {0}) RunError → Type 0
MarksWriter old new (Ok value) = new ≡ old
MarksWriter old new (Err Memory) = new ≡ old
MarksWriter old new (Err Write) = new ≡ true
MarksWriter old new (Err Read) = ⊥

-- A call that writes a text and an end of line ended with a result. Ok: the call wrote the whole text and the end of
-- line. Memory: the call wrote nothing. Write: the call wrote the beginning of the text and the end of line. Read: this
-- error is impossible.
abbrev pub IsLineWritten : Option (List ℕ) → Option (List ℕ) → List ℕ → Result (Unit {0}) RunError → Type 0
IsLineWritten old new text (Ok value) = HasWritten old new (as_line text) []
IsLineWritten old new text (Err Memory) = new ≡ old
IsLineWritten old new text (Err Write) = (unwritten : List ℕ) × HasWritten old new (as_line text) unwritten
IsLineWritten old new text (Err Read) = ⊥

-- A call that writes the answers to these lines ended with an error. Memory: the call wrote the whole answers to some
-- first lines, but not to all lines. Write: the call wrote a beginning of the answers. Read: this error is impossible.
abbrev pub BreaksOff : (List ℕ → List ℕ → Type 0) → Option (List ℕ) → Option (List ℕ) → List (List ℕ) → RunError
    → Type 0
BreaksOff Is old new lines Memory = (rest : List (List ℕ)) × (rest ≢ []) × HasAnswered Is old new lines rest []
BreaksOff Is old new lines Write =
    (rest : List (List ℕ)) × ((unwritten : List ℕ) × HasAnswered Is old new lines rest unwritten)
BreaksOff Is old new lines Read = ⊥

-- a call that answers these lines, except `rest` at their end, ended with `result`
abbrev pub AreAnswered : (List ℕ → List ℕ → Type 0) → Option (List ℕ) → Option (List ℕ)
    → List (List ℕ) → List (List ℕ) → Result (Unit {0}) RunError → Type 0
AreAnswered Is old new lines rest result =
    MatchResult result (λ _. HasAnswered Is old new lines rest []) (BreaksOff Is old new lines)

-- The answers to some first lines of the input were written whole. The other lines are those of `part`, which was read,
-- followed by `left`, which is left to read. `input` and `left` are the known bytes of the reader before and after the
-- run. Nothing is said if those before it are unknown (None), and known bytes do not become unknown.
abbrev pub AnswersBut : (List ℕ → List ℕ → Type 0) → Option (List ℕ) → Option (List ℕ) → Option (List ℕ)
    → Option (List ℕ) → List ℕ → Type 0
AnswersBut Is old new None left part = ⊤
AnswersBut Is old new (Some input) None part = ⊥
AnswersBut Is old new (Some input) (Some left) part =
    HasAnswered Is old new (lines_of input) (lines_of (part ++ left)) []

-- The answers to the lines whose ends were read, and to no other line, were written whole: `part`, which was read and
-- not answered, has no end of line. `input` and `left` are as in `AnswersBut`.
abbrev pub AnswersEnded : (List ℕ → List ℕ → Type 0) → Option (List ℕ) → Option (List ℕ) → Option (List ℕ)
    → Option (List ℕ) → Type 0
AnswersEnded Is old new input left = (part : List ℕ) × HasNo 10 part × AnswersBut Is old new input left part

-- A run of a reader and a writer ended with `result`. They were `reader` and `writer` before it, and are `reader'` and
-- `writer'` after it. The first five arguments are the ghost members of their types. `AfterRead` says what holds of the
-- written bytes after a failed read.
pub record IsRun {X R W : Type 0} (read_mark : R → Bool) (left : R → Option (List ℕ)) (write_mark : W → Bool)
    (written : W → Option (List ℕ)) (is_flushed : W → Bool) (Is : List ℕ → List ℕ → Type 0) (AfterRead : Type 0)
    (reader reader' : R) (writer writer' : W) (result : Result X RunError) : Type 0 where
  -- Ok: no call failed, the input was read to its end, each answer was written whole, and the writer is flushed.
  pub unmarked : OnOk result ((read_mark reader' ≡ read_mark reader) × (write_mark writer' ≡ write_mark writer))
  pub read_whole : OnOk result (IsAtEnd (left reader'))
  pub answered : OnOk result (IfSome (left reader) (AnswersAll Is (written writer) (written writer')))
  pub flushed : OnOk result (is_flushed writer' ≡ true)
  -- Read: a read failed, and no write did.
  pub read : IsErrOf result Read → (read_mark reader' ≡ true) × (write_mark writer' ≡ write_mark writer)
  pub after_read : IsErrOf result Read → AfterRead
  -- Memory: no call failed. The answers to some first lines were written whole, and nothing else. They are not the
  -- answers to all lines, unless the input has no line.
  pub memory_unmarked : IsErrOf result Memory
      → (read_mark reader' ≡ read_mark reader) × (write_mark writer' ≡ write_mark writer)
  pub some_answered : IsErrOf result Memory → IfSome (left reader) (AnswersFirst Is (written writer) (written writer'))
  -- Write: a write or the flush failed, or a write took no byte, and no read failed. A beginning of the answers was
  -- written.
  pub write : IsErrOf result Write → write_mark writer' ≡ true
  pub no_read_failed : IsErrOf result Write → read_mark reader' ≡ read_mark reader
  pub some_written : IsErrOf result Write → IfSome (left reader) (BeginsAnswers Is (written writer) (written writer'))

-- A run that answers as it reads ended with `result`. After a failed read the lines whose ends were read are answered.
abbrev pub IsStreamRun : {X R W : Type 0} → (R → Bool) → (R → Option (List ℕ)) → (W → Bool) → (W → Option (List ℕ))
    → (W → Bool) → (List ℕ → List ℕ → Type 0) → R → R → W → W → Result X RunError → Type 0
IsStreamRun read_mark left write_mark written is_flushed Is reader reader' writer writer' result =
    IsRun read_mark left write_mark written is_flushed Is
    (AnswersEnded Is (written writer) (written writer') (left reader) (left reader')) reader reader' writer writer'
    result
