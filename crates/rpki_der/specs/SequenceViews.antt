-- Results of calls on a cursor that may also run out of memory, or that return None at another tag.
use Rattle.std.specs.Prelude.{◌≡◌, ◌⊎◌, ℕ, true, false, List, Option, Some, None, Result, Ok, Err}
use Rattle.rpki_der.specs.declared.cursor.Cursor.{Cursor}
use Rattle.rpki_der.specs.declared.error.DerError.{DerError}
use Rattle.rpki_der.specs.declared.error.DerError.TheVariants.{NotCanonical}
use Rattle.rpki_der.specs.Der.{Front, NoFront}
use Rattle.rpki_der.specs.Views.{is_strict, left}
use Rattle.rpki_text.specs.declared.memory.OrMemory.{OrMemory}
use Rattle.rpki_text.specs.Memory.{IfRefused}
use Rattle.rpki_der.specs.SequenceReading.{begins_with}

-- the result of a call, seen by view, is the result of reading, including its fault; an out-of-memory error implies
-- nothing
abbrev pub GivesOrMemory : {X Y : Type 0} → (X → Y) → Result X (OrMemory DerError) → Result Y DerError → Type 0
GivesOrMemory view (Ok x) read = read ≡ Ok (view x)
GivesOrMemory view (Err e) read = IfRefused (λ fault. read ≡ Err fault) e

-- C relates the value of reading to the value of a call, and the faults are the same; an out-of-memory error implies
-- nothing
abbrev pub GivesSaidOrMemory : {X Y : Type 0} → (Y → X → Type 0) → Result X (OrMemory DerError) → Result Y DerError
    → Type 0
GivesSaidOrMemory {X} {Y} C (Ok x) read = (y : Y) × (read ≡ Ok y) × C y x
GivesSaidOrMemory C (Err e) read = IfRefused (λ fault. read ≡ Err fault) e

-- The result, seen by view, is the result of reading at the old cursor, including its fault. The new cursor is at the
-- end of reading. After a refusal, and after an out-of-memory error, the cursor is unchanged.
abbrev pub TakesOrMemory : {X Y : Type 0} → (X → Y) → Cursor → Cursor → Result X (OrMemory DerError)
    → (List ℕ → Result (Y × List ℕ) DerError) → Type 0
TakesOrMemory view old new (Ok x) reading = reading (left old) ≡ Ok (view x, left new)
TakesOrMemory view old new (Err e) reading = IfRefused (λ fault. reading (left old) ≡ Err fault) e × (new ≡ old)

-- TakesOrMemory, with C relating the value of reading to the value of the result.
abbrev pub TakesSaidOrMemory : {X Y : Type 0} → (Y → X → Type 0) → Cursor → Cursor → Result X (OrMemory DerError)
    → (List ℕ → Result (Y × List ℕ) DerError) → Type 0
TakesSaidOrMemory {X} {Y} C old new (Ok x) reading = (y : Y) × (reading (left old) ≡ Ok (y, left new)) × C y x
TakesSaidOrMemory C old new (Err e) reading = IfRefused (λ fault. reading (left old) ≡ Err fault) e × (new ≡ old)

-- The result, seen by view, is the value of the grammar at the old cursor, and the new cursor is after this value. A
-- refusal means that there was no such value. After it, and after an out-of-memory error, the cursor is unchanged.
abbrev pub ReadsOrMemory : {X Y : Type 0} → (List ℕ → Y → Type 0) → (X → Y) → Cursor → Cursor
    → Result X (OrMemory DerError) → Type 0
ReadsOrMemory G view old new (Ok x) = Front G (left old) (view x) (left new)
ReadsOrMemory G view old new (Err e) = IfRefused (λ fault. NoFront G (left old)) e × (new ≡ old)

-- The result is None if and only if the next octet isn't the tag or no octet is left. No octet is taken then.
-- Otherwise it is the value of the grammar at the old cursor, or a refusal if there was no such value.
abbrev pub ReadsTagged : {X : Type 0} → ℕ → (List ℕ → X → Type 0) → Cursor → Cursor → Result (Option X) DerError
    → Type 0
ReadsTagged tag G old new (Ok None) = (begins_with tag (left old) ≡ false) × (left new ≡ left old)
ReadsTagged tag G old new (Ok (Some x)) = (begins_with tag (left old) ≡ true) × Front G (left old) x (left new)
ReadsTagged tag G old new (Err e) = (begins_with tag (left old) ≡ true) × NoFront G (left old) × (new ≡ old)

-- If the result is a refusal, the cursor is strict and found octets that aren't canonical, or there was no value of
-- the grammar at the old cursor. An out-of-memory error implies nothing.
abbrev pub NotCanonicalOrMemory : {X Y : Type 0} → (List ℕ → Y → Type 0) → Cursor → Result X (OrMemory DerError)
    → Type 0
NotCanonicalOrMemory G old (Ok x) = Unit {0}
NotCanonicalOrMemory G old (Err e) =
    IfRefused (λ fault. ((is_strict old ≡ true) × (fault ≡ NotCanonical)) ⊎ NoFront G (left old)) e
