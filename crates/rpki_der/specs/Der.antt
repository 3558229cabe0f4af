-- DER values of X.690: the octets of each, and the definition of a value at the front of octets.
use Rattle.std.specs.Prelude.{◌≡◌, ℕ, zero, suc, ◌+◌, ◌-◌, ◌*◌, ◌≢◌, ◌⊎◌, ◌%◌, ◌^◌, ◌<◌, ◌≤◌, List, [], ◌∷◌, ◌++◌}
use Rattle.std.specs.Prelude.{length, slice_index, nat_lt, if◌then◌else◌}
use Rattle.std.specs.Int.{w64, to_be_bytes}

-- every item is an octet
abbrev pub IsBytes : List ℕ → Type 0
IsBytes bytes = (i : ℕ) → slice_index bytes i < 256

-- the number that a number n and further octets spell, the most significant octet first
abbrev pub big_endian_after : ℕ → List ℕ → ℕ
big_endian_after n [] = n
big_endian_after n (b ∷ bs) = big_endian_after (n * 256 + b) bs

-- the number that octets spell, the most significant first
abbrev pub big_endian : List ℕ → ℕ
big_endian bytes = big_endian_after 0 bytes

-- the octets without the zero octets at their start
abbrev pub without_zeros : List ℕ → List ℕ
without_zeros [] = []
without_zeros (zero ∷ bs) = without_zeros bs
without_zeros (suc b ∷ bs) = suc b ∷ bs

-- the fewest octets that spell a number below 2 ^ 64: no octet for 0
unfoldable pub octets : ℕ → List ℕ
octets n = without_zeros (to_be_bytes w64 n)

-- ---- tag, length and content

-- a tag in one octet: the low five bits, which hold its number, aren't all ones (X.690, 8.1.2.2 and 8.1.2.4)
abbrev pub IsTag : ℕ → Type 0
IsTag tag = tag % 32 < 31

-- the tag octet of a class (0 is universal, 2 that of the context), primitive (0) or constructed (1), and a tag number
-- below 31 (X.690, 8.1.2.2 to 8.1.2.5)
abbrev pub tag_octet : ℕ → ℕ → ℕ → ℕ
tag_octet class form number = class * 64 + form * 32 + number

-- a definite length in the fewest octets (X.690, 8.1.3.4, 8.1.3.5 and 10.1). Below 128, one octet. From 128 on, an
-- octet that is 128 plus the count of the octets after it, and then these octets
unfoldable pub length_octets : ℕ → List ℕ
length_octets n = if nat_lt n 128 then n ∷ [] else (128 + length (octets n)) ∷ octets n

-- the octets before a content of n octets
unfoldable pub header : ℕ → ℕ → List ℕ
header tag n = tag ∷ length_octets n

-- the octets of a value: the tag, the length and the content (X.690, 8.1.1)
abbrev pub value : ℕ → List ℕ → List ℕ
value tag content = header tag (length content) ++ content

-- a value with any tag
pub record Tlv : Type 0 where
  pub tag : ℕ
  pub content : List ℕ

-- these octets are the value with this tag and this content, whose length eight octets can spell
pub record IsValue (bytes : List ℕ) (tag : ℕ) (content : List ℕ) : Type 0 where
  pub has_tag : IsTag tag
  pub short : length content < 2 ^ 64
  pub spelled : bytes ≡ value tag content

-- ---- contents

-- A zero octet is put in front if there is no octet, or if the first bit would be 1, which would make the number
-- negative.
abbrev pub with_sign : List ℕ → List ℕ
with_sign [] = 0 ∷ []
with_sign (b ∷ bs) = if nat_lt b 128 then b ∷ bs else 0 ∷ b ∷ bs

-- the content of an INTEGER that isn't negative, in the fewest octets (X.690, 8.3)
unfoldable pub integer : ℕ → List ℕ
integer n = with_sign (octets n)

-- the value of a BIT STRING: the number of unused bits in the last octet, and the octets, unchanged
pub record Bits : Type 0 where
  pub unused : ℕ
  pub octets : List ℕ

-- at most seven bits are unused, and no bit if there is no octet (X.690, 8.6.2.2 and 8.6.2.3)
pub record IsBits (b : Bits) : Type 0 where
  pub below : b.unused < 8
  pub empty : length b.octets ≡ 0 → b.unused ≡ 0

-- the bit string with this number of unused bits and these octets
abbrev pub bits_with : ℕ → List ℕ → Bits
bits_with unused octets = record { unused = unused; octets = octets }

-- the content of a BIT STRING: an octet with the number of unused bits, and the octets (X.690, 8.6.2.1 and 8.6.2.2)
abbrev pub bit_content : Bits → List ℕ
bit_content b = b.unused ∷ b.octets

-- the last octet, or 0 if there is no octet
abbrev pub last_octet : List ℕ → ℕ
last_octet octets = slice_index octets (length octets - 1)

-- the bits that aren't used are zero (X.690, 11.2.1)
abbrev pub IsPadded : Bits → Type 0
IsPadded b = last_octet b.octets % 2 ^ b.unused ≡ 0

-- the number of used bits
abbrev pub bit_count : Bits → ℕ
bit_count b = 8 * length b.octets - b.unused

-- ---- grammars: the octets, all of them, are an encoding of x

-- a value with any tag (X.690, 8.1)
abbrev pub IsTlv : List ℕ → Tlv → Type 0
IsTlv bytes v = IsValue bytes v.tag v.content

-- an INTEGER from 0 to 4294967295 (X.690, 8.3)
abbrev pub IsU32 : List ℕ → ℕ → Type 0
IsU32 bytes n = (n < 2 ^ 32) × IsValue bytes 2 (integer n)

-- a BIT STRING, primitive (X.690, 8.6.2)
abbrev pub IsBitString : List ℕ → Bits → Type 0
IsBitString bytes b = IsBits b × IsValue bytes 3 (bit_content b)

-- an OCTET STRING, primitive (X.690, 8.7.2)
abbrev pub IsOctetString : List ℕ → List ℕ → Type 0
IsOctetString bytes content = IsValue bytes 4 content

-- a NULL, which has no content (X.690, 8.8)
abbrev pub IsNull : List ℕ → Unit {0} → Type 0
IsNull bytes u = IsValue bytes 5 []

-- a SEQUENCE and the octets of its content (X.690, 8.9)
abbrev pub IsSequence : List ℕ → List ℕ → Type 0
IsSequence bytes content = IsValue bytes 48 content

-- ---- grammars from grammars

-- a value of G that denotes y by the rule C, as a SEQUENCE does by its content
abbrev pub Refines : {X Y : Type 0} → (List ℕ → X → Type 0) → (X → Y → Type 0) → List ℕ → Y → Type 0
Refines {X} G C bytes y = (x : X) × G bytes x × C x y

-- a value of G for which P holds
abbrev pub Where : {X : Type 0} → (List ℕ → X → Type 0) → (X → Type 0) → List ℕ → X → Type 0
Where G P bytes x = G bytes x × P x

-- the octets are the encoding of x, for which P holds
abbrev pub Spells : {X : Type 0} → (X → Type 0) → (X → List ℕ) → List ℕ → X → Type 0
Spells P octets bytes x = P x × (bytes ≡ octets x)

-- the octets begin with an encoding of x, and rest follows it
abbrev pub Front : {X : Type 0} → (List ℕ → X → Type 0) → List ℕ → X → List ℕ → Type 0
Front G bytes x rest = (front : List ℕ) × G front x × (bytes ≡ front ++ rest)

-- the octets begin with no value of G
abbrev pub NoFront : {X : Type 0} → (List ℕ → X → Type 0) → List ℕ → Type 0
NoFront {X} G bytes = (x : X) (rest : List ℕ) → Front G bytes x rest → ⊥

-- the octets, all of them, are no value of G
abbrev pub HasNone : {X : Type 0} → (List ℕ → X → Type 0) → List ℕ → Type 0
HasNone {X} G bytes = (x : X) → ¬ G bytes x

-- octets begin with at most one value of G, which denotes only one x
abbrev pub OneFront : {X : Type 0} → (List ℕ → X → Type 0) → Type 0
OneFront {X} G = (a b : List ℕ) (x y : X) (r s : List ℕ) → G a x → G b y → a ++ r ≡ b ++ s → (a ≡ b) × (x ≡ y) × (r ≡ s)

-- the octets are a value of G and a value of H, and nothing else
abbrev pub Both : {X Y : Type 0} → (List ℕ → X → Type 0) → (List ℕ → Y → Type 0) → List ℕ → X → Y → Type 0
Both G H bytes x y = (rest : List ℕ) × Front G bytes x rest × H rest y

-- the octets are values one after another, and nothing else; each is of the grammar of the state that follows from
-- the values before
abbrev pub EachFrom : {S X : Type 0} → (S → X → S) → (S → List ℕ → X → Type 0) → S → List ℕ → List X → Type 0
EachFrom next G state bytes [] = bytes ≡ []
EachFrom next G state bytes (x ∷ xs) =
    (rest : List ℕ) × Front (G state) bytes x rest × EachFrom next G (next state x) rest xs

-- the octets are values of G one after another, and nothing else
abbrev pub Each : {X : Type 0} → (List ℕ → X → Type 0) → List ℕ → List X → Type 0
Each G = EachFrom (λ (state : Unit {0}) x. state) (λ state. G) tt

-- ---- encodings

-- the octets of an INTEGER
abbrev pub u32_value : ℕ → List ℕ
u32_value n = value 2 (integer n)

-- the octets of a BIT STRING
abbrev pub bit_string_value : Bits → List ℕ
bit_string_value b = value 3 (bit_content b)

-- the octets of an OCTET STRING with this content
abbrev pub octet_string_value : List ℕ → List ℕ
octet_string_value content = value 4 content

-- the octets of a NULL: 05 00
abbrev pub null_value : List ℕ
null_value = value 5 []

-- the octets of a SEQUENCE with this content
abbrev pub sequence_value : List ℕ → List ℕ
sequence_value content = value 48 content

-- ---- the same values by the conditions of the standard

-- a length in the long form: the first octet is 128 plus the count of the others; these are at most eight, don't begin
-- with zero, and spell n, which is 128 or more (X.690, 8.1.3.5 and 10.1)
pub record IsLongLength (first : ℕ) (digits : List ℕ) (n : ℕ) : Type 0 where
  pub count : first ≡ 128 + length digits
  pub few : length digits ≤ 8
  pub no_zero : slice_index digits 0 ≢ 0
  pub large : 128 ≤ n
  pub spelled : big_endian digits ≡ n

-- the octets are the length n, in the short form or in the long form (X.690, 8.1.3.4, 8.1.3.5 and 10.1)
abbrev pub IsLength : List ℕ → ℕ → Type 0
IsLength [] n = ⊥
IsLength (first ∷ digits) n = ((first < 128) × (n ≡ first) × (digits ≡ [])) ⊎ IsLongLength first digits n

-- one to five octets that spell n, which is below 2 ^ 32; the first bit is 0; of two or more octets the first nine bits
-- aren't all zero (X.690, 8.3.2 and 8.3.3)
pub record IsUnsigned (content : List ℕ) (n : ℕ) : Type 0 where
  pub some : 0 < length content
  pub few : length content ≤ 5
  pub sign : slice_index content 0 < 128
  pub minimal : 1 < length content → slice_index content 0 ≡ 0 → 128 ≤ slice_index content 1
  pub spelled : big_endian content ≡ n
  pub limit : n < 2 ^ 32

-- an octet that counts the unused bits, and the octets that hold the bits (X.690, 8.6.2)
pub record IsBitContent (content : List ℕ) (b : Bits) : Type 0 where
  pub counted : IsBits b
  pub spelled : content ≡ bit_content b

-- there is no octet, as in the content of a NULL (X.690, 8.8.2)
abbrev pub IsNothing : List ℕ → Unit {0} → Type 0
IsNothing content u = content ≡ []
