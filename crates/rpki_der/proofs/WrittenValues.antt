-- What is written is a value, and values are spelled by the conditions of X.690.
use Rattle.rpki_der.proofs.Common.{List, arith, length, refl, ℕ, ◌++◌, ◌<◌, ◌^◌, ◌∷◌, ◌≡◌, lt-ltb, Bits, IsBitString}
use Rattle.rpki_der.proofs.Common.{IsBits, IsBytes, IsLength, IsTag, IsU32, IsValue, bit_string_value, header}
use Rattle.rpki_der.proofs.Common.{length_octets, u32_value, value}
use Rattle.rpki_der.proofs.ContentReadings.{length-integer}
use Rattle.rpki_der.proofs.LengthReadings.{length_spelled, spelled_length}

-- the octets of a tag and a content are the value
pub value_is : (tag : ℕ) (content : List ℕ) → IsTag tag → length content < 2 ^ 64
    → IsValue (value tag content) tag content
value_is tag content has_tag short = record { has_tag = has_tag; short = short; spelled = refl }

-- the INTEGER of a number of 32 bits
pub u32_is : (n : ℕ) → n < 2 ^ 32 → IsU32 (u32_value n) n
u32_is n lt = (lt, value_is 2 _ (omega arith) (omega (arith, length-integer n lt)))

-- the BIT STRING of bits
pub bit_string_is : (b : Bits) → IsBits b → length b.octets < 2 ^ 63 → IsBitString (bit_string_value b) b
bit_string_is b is short = (is, value_is 3 _ (omega arith) (omega arith))

-- two octets stand in front of a short content
pub length-header : (tag n : ℕ) → n < 128 → length (header tag n) ≡ 2
unfolding header length_octets
length-header tag n lt = rw (lt-ltb n 128 lt) (omega arith)

-- so an INTEGER of 32 bits has seven octets at most
pub ruleset short_integer = (length-header, length-integer)

-- a tag, a length that meets the conditions, and as many octets, are a value
pub value_spelled : (tag : ℕ) (len content : List ℕ) → IsTag tag → IsBytes len → IsLength len (length content)
    → IsValue (tag ∷ (len ++ content)) tag content
unfolding header
value_spelled tag len content has_tag fits is = grind (arith, length_spelled)

-- and each value is such
pub spelled_value : (bytes : List ℕ) (tag : ℕ) (content : List ℕ) → IsValue bytes tag content
    → (len : List ℕ) × IsLength len (length content) × (bytes ≡ tag ∷ (len ++ content))
unfolding header
spelled_value bytes tag content is =
    (length_octets (length content), spelled_length (length content) is.short, is.spelled)
