-- From the reading to the grammar, for calls that take memory, or that look at the tag first.
use Rattle.rpki_der.proofs.Common.{List, Ok, Option, Result, Some, arith, length, ℕ, ◌++◌, ◌<◌, ◌≡◌, IsBytes, Refines}
use Rattle.rpki_der.proofs.Common.{IsReading, optional, ReadsOptional, Takes, left, Cursor, DerError, OrMemory}
use Rattle.rpki_der.proofs.Common.{if_tagged, ReadsOrMemory, ReadsTagged, TakesOrMemory, TakesSaidOrMemory, Grammar}
use Rattle.rpki_der.proofs.Common.{Reading, ◌∷◌, []}
use Rattle.rpki_der.proofs.ValueProofs.{none_by, reads_optional_by}

-- a take that may want memory
pub reads_or_memory_by : {X Y : Type 0} (G : Grammar Y) (reading : Reading Y) (view : X → Y) (old new : Cursor)
    (result : Result X (OrMemory DerError)) → IsReading G reading → IsBytes (left old)
    → TakesOrMemory view old new result reading → ReadsOrMemory G view old new result
reads_or_memory_by G reading view old new result is fits took = grind (arith, none_by)

-- a take that answers None at the end, of values as they are
pub reads_optional_value_by : {X : Type 0} (G : Grammar X) (reading : Reading X) (old new : Cursor)
    (result : Result (Option X) DerError) → IsReading G reading → IsBytes (left old)
    → Takes (λ o. o) old new result (optional reading) → ReadsOptional G (λ x. x) old new result
reads_optional_value_by G reading old new result is fits took = grind (arith, reads_optional_by)

-- a take of a value that is there if its tag is
pub reads_tagged_by : {X : Type 0} (tag : ℕ) (G : Grammar X) (reading : Reading X) (old new : Cursor)
    (result : Result (Option X) DerError) → IsReading G reading → IsBytes (left old)
    → Takes (λ o. o) old new result (if_tagged tag reading) → ReadsTagged tag G old new result
unfolding if_tagged
reads_tagged_by tag G reading old new result is fits = grind arith

-- a take that answers what is said by what the reading gives
pub reads_said_by : {X Y : Type 0} (G : Grammar Y) (C : Y → X → Type 0) (reading : Reading Y) (old new : Cursor)
    (result : Result X (OrMemory DerError)) → IsReading G reading → IsBytes (left old)
    → TakesSaidOrMemory C old new result reading → ReadsOrMemory (Refines G C) (λ x. x) old new result
reads_said_by G C reading old new result is fits h = grind (arith, none_by)

-- one that answers None at the end gives the value that stands there, and then stands behind it
pub optional_back : {X : Type 0} (reading : Reading X) (old new : Cursor) (result : Result (Option X) DerError)
    → Takes (λ x. x) old new result (optional reading) → (front rest : List ℕ) (x : X) → 0 < length front
    → left old ≡ front ++ rest → reading (front ++ rest) ≡ Ok (x, rest) → (result ≡ Ok (Some x)) × (left new ≡ rest)
unfolding optional
optional_back reading old new result took [] rest x some at read = absurd (omega arith)
optional_back reading old new result took (b ∷ front) rest x some at read = grind arith
