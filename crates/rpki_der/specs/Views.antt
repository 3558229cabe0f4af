-- The view that contracts have of a cursor and of its values, and the results of its calls.
use Rattle.std.specs.Prelude.{◌≡◌, ◌≢◌, ◌⊎◌, ℕ, Bool, true, false, List, [], Option, Some, None, Result, Ok, Err}
use Rattle.rpki_der.specs.declared.cursor.Cursor.{Cursor}
use Rattle.rpki_der.specs.declared.content.Content.{Content}
use Rattle.rpki_der.specs.declared.content.BitString.{BitString}
use Rattle.rpki_der.specs.declared.error.DerError.{DerError}
use Rattle.rpki_der.specs.declared.error.DerError.TheVariants.{NotCanonical}
use Rattle.rpki_der.specs.Der.{Tlv, Bits, Front, HasNone, NoFront}

-- the octets that are left
abbrev pub left : Cursor → List ℕ
left cursor = cursor.octets.now

-- the tag and the content of a decoded value
abbrev pub tlv : Content → Tlv
tlv value = record { tag = value.tag; content = value.octets.now }

-- the octets of the content of a decoded value
abbrev pub content_octets : Content → List ℕ
content_octets value = value.octets.now

-- the number of unused bits and the octets of a bit string
abbrev pub bit_string_of : BitString → Bits
bit_string_of b = record { unused = b.unused; octets = b.octets.now }

-- whether a cursor takes only canonical octets
abbrev pub is_strict : Cursor → Bool
is_strict cursor = cursor.strict

-- whether a content was taken from a strict cursor
abbrev pub is_strict_in : Content → Bool
is_strict_in value = value.strict

-- P holds if the cursor is lenient, which means that it takes all values of the grammars
abbrev pub Lenient : Cursor → Type 0 → Type 0
Lenient cursor P = is_strict cursor ≡ false → P

-- P holds if the content was taken from a lenient cursor
abbrev pub LenientIn : Content → Type 0 → Type 0
LenientIn value P = is_strict_in value ≡ false → P

-- P holds if the cursor is strict, which means that it takes only canonical octets
abbrev pub Strict : Cursor → Type 0 → Type 0
Strict cursor P = is_strict cursor ≡ true → P

-- P holds if the content was taken from a strict cursor
abbrev pub StrictIn : Content → Type 0 → Type 0
StrictIn value P = is_strict_in value ≡ true → P

-- The result, seen by view, is the value of the grammar at the old cursor, and the new cursor is after this value. A
-- refusal means that there was no such value. The cursor is then unchanged.
abbrev pub ReadsValue : {X Y : Type 0} → (List ℕ → Y → Type 0) → (X → Y) → Cursor → Cursor → Result X DerError → Type 0
ReadsValue G view old new (Ok x) = Front G (left old) (view x) (left new)
ReadsValue G view old new (Err e) = NoFront G (left old) × (new ≡ old)

-- ReadsValue, except that the result is None if and only if no octet was left.
abbrev pub ReadsOptional : {X Y : Type 0} → (List ℕ → Y → Type 0) → (X → Y) → Cursor → Cursor
    → Result (Option X) DerError → Type 0
ReadsOptional G view old new (Ok None) = (left old ≡ []) × (left new ≡ [])
ReadsOptional G view old new (Ok (Some x)) = Front G (left old) (view x) (left new)
ReadsOptional G view old new (Err e) = (left old ≢ []) × NoFront G (left old) × (new ≡ old)

-- The result, seen by view, is the result of reading at the old cursor, including its fault. The new cursor is at the
-- end of reading. After a refusal the cursor is unchanged.
abbrev pub Takes : {X Y : Type 0} → (X → Y) → Cursor → Cursor → Result X DerError
    → (List ℕ → Result (Y × List ℕ) DerError) → Type 0
Takes view old new (Ok x) reading = reading (left old) ≡ Ok (view x, left new)
Takes view old new (Err e) reading = (reading (left old) ≡ Err e) × (new ≡ old)

-- The result, seen by view, is the meaning of the octets by the rule C. A refusal means that they have no meaning by
-- it.
abbrev pub Parses : {X Y E : Type 0} → (List ℕ → Y → Type 0) → (X → Y) → List ℕ → Result X E → Type 0
Parses C view octets (Ok x) = C octets (view x)
Parses {Y} C view octets (Err e) = (y : Y) → C octets y → ⊥

-- If the result is a refusal, the cursor is strict and found octets that aren't canonical, or there was no value of
-- the grammar at the old cursor.
abbrev pub NotCanonicalOr : {X Y : Type 0} → (List ℕ → Y → Type 0) → Cursor → Result X DerError → Type 0
NotCanonicalOr G old (Ok x) = Unit {0}
NotCanonicalOr G old (Err e) = ((is_strict old ≡ true) × (e ≡ NotCanonical)) ⊎ NoFront G (left old)

-- If the result is a refusal, the content was taken from a strict cursor and isn't canonical, or it has no meaning by
-- the rule C.
abbrev pub NotCanonicalInOr : {X Y : Type 0} → (List ℕ → Y → Type 0) → Content → Result X DerError → Type 0
NotCanonicalInOr C value (Ok x) = Unit {0}
NotCanonicalInOr C value (Err e) = ((is_strict_in value ≡ true) × (e ≡ NotCanonical)) ⊎ HasNone C (content_octets value)
