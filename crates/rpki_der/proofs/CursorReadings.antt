-- From the reading to the grammar, for the calls on a cursor and on a content.
use Rattle.rpki_der.proofs.Common.{Err, List, Option, Result, option_map, ℕ, ◌≡◌, IsBytes, NoFront, Gives, IsReading}
use Rattle.rpki_der.proofs.Common.{optional, Parses, ReadsOptional, ReadsValue, Takes, left, Cursor, DerError, arith}
use Rattle.rpki_der.proofs.Common.{Grammar, Reading}
use Rattle.rpki_der.proofs.ReadingSteps.{IsCheck, ok_or_err}
use Rattle.rpki_der.proofs.ValueLists.{optional_some, optional_none, optional_err}

-- a reading that fails finds no value of its grammar
pub none_by : {X : Type 0} (G : Grammar X) (reading : Reading X) (bytes : List ℕ) (e : DerError) → IsReading G reading
    → reading bytes ≡ Err e → NoFront G bytes
none_by G reading bytes e is failed x rest found = grind (arith, is.again, ok_or_err)

-- a take that answers what the reading gives answers the value of its grammar
pub reads_by : {X Y : Type 0} (G : Grammar Y) (reading : Reading Y) (view : X → Y) (old new : Cursor)
    (result : Result X DerError) → IsReading G reading → IsBytes (left old) → Takes view old new result reading
    → ReadsValue G view old new result
reads_by G reading view old new result is fits took = grind arith

-- the same for a take that answers None at the end
pub reads_optional_by : {X Y : Type 0} (G : Grammar Y) (reading : Reading Y) (view : X → Y) (old new : Cursor)
    (result : Result (Option X) DerError) → IsReading G reading → IsBytes (left old)
    → Takes (λ o. option_map view o) old new result (optional reading) → ReadsOptional G view old new result
reads_optional_by G reading view old new result is fits took =
    grind (arith, none_by, optional_err, optional_none, optional_some)

-- the same for a content and its rule
pub parses_by : {X Y : Type 0} (Fits : List ℕ → Type 0) (C : Grammar Y) (check : List ℕ → Result Y DerError)
    (view : X → Y) (octets : List ℕ) (result : Result X DerError) → IsCheck Fits C check → Fits octets
    → Gives view result (check octets) → Parses C view octets result
parses_by Fits C check view octets result is fits gives = grind arith
