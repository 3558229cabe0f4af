-- Reading octets from left to right: the value at the front and the octets after it, or the first fault.
use Rattle.std.specs.Prelude.{◌≡◌, ◌⊎◌, ℕ, zero, suc, ◌+◌, ◌-◌, ◌*◌, ◌%◌, ◌^◌, Bool, true, false, not, List, [], ◌∷◌}
use Rattle.std.specs.Prelude.{◌++◌, length, take, drop, slice_index, ◌&&◌, ◌||◌, Option, Some, None, Result, Ok, Err}
use Rattle.std.specs.Prelude.{nat_lt, nat_le, ◌==◌, if◌then◌else◌}
use Rattle.rpki_der.specs.declared.error.DerError.{DerError}
use Rattle.rpki_der.specs.declared.error.DerError.TheVariants.{Truncated, BadTag, BadLength, BadInteger, BadBitString}
use Rattle.rpki_der.specs.declared.error.DerError.TheVariants.{BadNull, TrailingData, NotCanonical}
use Rattle.rpki_der.specs.Der.{Tlv, Bits, IsBytes, Front, big_endian, last_octet}

-- f of the value, or the error if there is no value
infixl 10 ◌>>=◌
abbrev pub ◌>>=◌ : {A B : Type 0} → Result A DerError → (A → Result B DerError) → Result B DerError
(Ok x) >>= f = f x
(Err e) >>= f = Err e

-- the result of a call, seen by view, is the result of reading: the same value or the same error
abbrev pub Gives : {X Y : Type 0} → (X → Y) → Result X DerError → Result Y DerError → Type 0
Gives view (Ok x) read = read ≡ Ok (view x)
Gives view (Err e) read = read ≡ Err e

-- ---- lengths and values

-- the length that count octets spell: a count of 0 is the indefinite form, and the highest count is eight
unfoldable pub long_length_at : ℕ → List ℕ → Result (ℕ × List ℕ) DerError
long_length_at count bytes =
    if (count == 0) || nat_lt 8 count then Err BadLength else
    if nat_lt (length bytes) count then Err Truncated else
    if (slice_index bytes 0 == 0) || nat_lt (big_endian (take count bytes)) 128 then Err BadLength else
    Ok (big_endian (take count bytes), drop count bytes)

-- the length at the front and the octets after it (X.690, 8.1.3 and 10.1)
unfoldable pub length_at : List ℕ → Result (ℕ × List ℕ) DerError
length_at [] = Err Truncated
length_at (first ∷ bytes) = if nat_lt first 128 then Ok (first, bytes) else long_length_at (first - 128) bytes

-- the value at the front and the octets after it (X.690, 8.1)
unfoldable pub value_at : List ℕ → Result (Tlv × List ℕ) DerError
value_at [] = Err Truncated
value_at (tag ∷ bytes) =
    if tag % 32 == 31 then Err BadTag else do
      len ← length_at bytes
      if nat_lt (length len.1) len.0 then Err Truncated
          else Ok (record { tag = tag; content = take len.0 len.1 }, drop len.0 len.1)

-- the content of the value at the front, which must have this tag
unfoldable pub tagged_at : ℕ → List ℕ → Result (List ℕ × List ℕ) DerError
tagged_at tag bytes = do
  v ← value_at bytes
  if v.0.tag == tag then Ok (v.0.content, v.1) else Err BadTag

-- ---- contents

-- the number that the content of an INTEGER spells, if it is from 0 to 4294967295 and in the fewest octets
unfoldable pub unsigned : List ℕ → Result ℕ DerError
unsigned content =
    if (length content == 0) || nat_lt 5 (length content) || nat_le 128 (slice_index content 0) then Err BadInteger else
    if nat_lt 1 (length content) && (slice_index content 0 == 0) && nat_lt (slice_index content 1) 128
    then Err BadInteger else
    if nat_lt (big_endian content) (2 ^ 32) then Ok (big_endian content) else Err BadInteger

-- the bit string in the content of a BIT STRING, unused bits as they are
unfoldable pub bits : List ℕ → Result Bits DerError
bits [] = Err BadBitString
bits (unused ∷ octets) = if nat_lt 7 unused || (nat_lt 0 unused && (length octets == 0)) then Err BadBitString
    else Ok (record { unused = unused; octets = octets })

-- whether a content that may be a bit string has more bits than the limit
abbrev pub is_longer : ℕ → List ℕ → Bool
is_longer limit [] = false
is_longer limit (unused ∷ octets) = nat_le unused 7 && nat_lt (limit + unused) (8 * length octets)

-- the content of a NULL, which has no octet
unfoldable pub nothing : List ℕ → Result (Unit {0}) DerError
nothing [] = Ok tt
nothing (b ∷ bytes) = Err BadNull

-- no octet is left
abbrev pub ended : List ℕ → Result (Unit {0}) DerError
ended bytes = if length bytes == 0 then Ok tt else Err TrailingData

-- ---- by the mode: a strict reading refuses octets that are not canonical

-- x; a strict reading refuses it by NotCanonical if it fails the test
unfoldable pub passing : {X : Type 0} → Bool → (X → Bool) → X → Result X DerError
passing strict test x = if strict && not (test x) then Err NotCanonical else Ok x

-- whether the bits that aren't used are zero (X.690, 11.2.1)
abbrev pub is_padded : Bits → Bool
is_padded b = last_octet b.octets % 2 ^ b.unused == 0

-- the bit string in the content of a BIT STRING; a strict reading requires that its unused bits are zero
unfoldable pub bits_by : Bool → List ℕ → Result Bits DerError
bits_by strict content = bits content >>= passing strict is_padded

-- ---- readings from readings

-- the result of a check of the value that reading finds, and the octets after the value
unfoldable pub refined : {X Y : Type 0} → (List ℕ → Result (X × List ℕ) DerError) → (X → Result Y DerError) → List ℕ
    → Result (Y × List ℕ) DerError
refined reading check bytes = do
  x ← reading bytes
  y ← check x.0
  Ok (y, x.1)

-- the value that reading finds, or None if there are no octets
unfoldable pub optional : {X : Type 0} → (List ℕ → Result (X × List ℕ) DerError) → List ℕ
    → Result (Option X × List ℕ) DerError
optional reading [] = Ok (None, [])
optional reading (b ∷ bytes) = do
  x ← reading (b ∷ bytes)
  Ok (Some x.0, x.1)

-- the values that reading finds to the end of the octets, each in the state that follows from the values before. A
-- value has at least one octet, so the number of the octets is a sufficient number of steps
unfoldable pub each_from : {S X : Type 0} → (S → X → S) → ℕ → (S → List ℕ → Result (X × List ℕ) DerError) → S → List ℕ
    → Result (List X) DerError
each_from next steps reading state [] = Ok []
each_from next zero reading state (b ∷ bytes) = Err Truncated
each_from next (suc steps) reading state (b ∷ bytes) = do
  x ← reading state (b ∷ bytes)
  xs ← each_from next steps reading (next state x.0) x.1
  Ok (x.0 ∷ xs)

-- each_from without a state
abbrev pub each : {X : Type 0} → ℕ → (List ℕ → Result (X × List ℕ) DerError) → List ℕ → Result (List X) DerError
each steps reading = each_from (λ (state : Unit {0}) x. state) steps (λ state. reading) tt

-- ---- values of one tag

-- an INTEGER from 0 to 4294967295
abbrev pub u32_at : List ℕ → Result (ℕ × List ℕ) DerError
u32_at = refined (tagged_at 2) unsigned

-- a BIT STRING, unused bits as they are
abbrev pub bit_string_at : List ℕ → Result (Bits × List ℕ) DerError
bit_string_at = refined (tagged_at 3) bits

-- a BIT STRING; a strict reading requires that its unused bits are zero
abbrev pub bit_string_by : Bool → List ℕ → Result (Bits × List ℕ) DerError
bit_string_by strict = refined (tagged_at 3) (bits_by strict)

-- a NULL
abbrev pub null_at : List ℕ → Result (Unit {0} × List ℕ) DerError
null_at = refined (tagged_at 5) nothing

-- ---- the values that readings find

-- reading finds the values of a grammar, with any octets after them, and no others
pub record IsReading {X : Type 0} (G : List ℕ → X → Type 0) (reading : List ℕ → Result (X × List ℕ) DerError)
    : Type 0 where
  pub takes : (bytes : List ℕ) (x : X) (rest : List ℕ) → IsBytes bytes → reading bytes ≡ Ok (x, rest)
      → Front G bytes x rest
  pub again : (front : List ℕ) (x : X) (rest : List ℕ) → G front x → reading (front ++ rest) ≡ Ok (x, rest)

-- a reading by the mode gives the same result, or refuses it as not canonical; only a strict one refuses so
abbrev pub Tightens : {X : Type 0} → Bool → Result X DerError → Result X DerError → Type 0
Tightens strict by found = (by ≡ found) ⊎ ((strict ≡ true) × (by ≡ Err NotCanonical))

-- Tightens holds for all octets, and the strict reading finds the values of S
pub record IsModal {X : Type 0} (S : List ℕ → X → Type 0) (reading : List ℕ → Result (X × List ℕ) DerError)
    (by : Bool → List ℕ → Result (X × List ℕ) DerError) : Type 0 where
  pub tight : IsReading S (by true)
  pub tightens : (strict : Bool) (bytes : List ℕ) → Tightens strict (by strict bytes) (reading bytes)
