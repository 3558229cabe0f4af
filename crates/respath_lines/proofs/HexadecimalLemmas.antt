-- The words of hexadecimal mean what those of the library `hex` mean.
use Rattle.respath_lines.proofs.Common.{List, Ok, [], arith, inl, inr, length, refl, suc, ℕ, ◌%◌, ◌+◌, ◌/◌, ◌<◌, ◌∷◌}
use Rattle.respath_lines.proofs.Common.{◌≡◌, ◌≤◌, ◌⊎◌, IsBytes, IsHexadecimal, lower_hexadecimal, Some, nat_tests}
use Rattle.std.proofs.Common.{None}
use Rattle.std.proofs.lemmas.Bool.{cases_eq}
use Rattle.std.specs.Char.{digit_char, digit_value}
use Rattle.std.specs.Prelude.{slice_index, ◌↔◌}
use Rattle.hex.specs.Hex.{decode_of, decode_pairs, encode_lower, encode_with, hex_digit_value, lower_digits}
use Rattle.hex.proofs.HexLemmas.{decode_of-encode_lower, decode_of-even, decode_of-ok, decode_of-same}
use Rattle.rpki_text.proofs.LookupTables.{agrees_at, agrees_below}

-- what std and the library say of a byte as a digit
digit_is : (c : ℕ) → ((digit_value c < 16) × (hex_digit_value c ≡ Some (digit_value c)))
    ⊎ ((16 ≤ digit_value c) × (hex_digit_value c ≡ None))
digit_is c = grind (arith, nat_tests)

-- pairs of digits
pairs_decoded : (i : ℕ) (text octets : List ℕ) → IsHexadecimal text octets ↔ (decode_pairs i text ≡ Ok octets)
unfolding IsHexadecimal decode_pairs
pairs_decoded i [] [] = grind arith
pairs_decoded i [] (octet ∷ octets) = grind arith
pairs_decoded i (a ∷ []) octets = grind arith
pairs_decoded i (a ∷ b ∷ rest) [] = grind (arith, digit_is a, digit_is b)
pairs_decoded i (a ∷ b ∷ rest) (octet ∷ octets) =
    grind (arith, digit_is a, digit_is b, pairs_decoded (i + 2) rest octets)

-- a text of digits has an even number of them
even_text : (text octets : List ℕ) → IsHexadecimal text octets → length text % 2 ≡ 0
unfolding IsHexadecimal
even_text [] octets writes = refl
even_text (high ∷ low ∷ text) (octet ∷ octets) writes = omega (arith, even_text text octets writes.1)
even_text text octets writes = absurd writes

-- a text is octets in hexadecimal if the library decodes it as them, and no other text is
pub decoded : (text octets : List ℕ) → IsHexadecimal text octets ↔ (decode_of text ≡ Ok octets)
decoded text octets = elim (cases_eq (length text % 2) 0) [
  | inl even ↦ rw (decode_of-even text even) (pairs_decoded 0 text octets)
  | inr odd ↦ (λ is. absurd (odd (even_text text octets is)), λ is. absurd (odd (decode_of-ok text octets is).0))
]

-- the digit of a value below 16
digit_at : (value : ℕ) → value < 16 → slice_index lower_digits value ≡ digit_char value
unfolding agrees_below
digit_at value small = agrees_at lower_digits digit_char 16 refl value small

-- the text of octets is the one that the library encodes
pub lower_encoded : (octets : List ℕ) → IsBytes octets → encode_lower octets ≡ lower_hexadecimal octets
unfolding encode_with lower_hexadecimal
lower_encoded [] bytes = refl
lower_encoded (octet ∷ octets) bytes =
    let small : octet < 256 = bytes 0 in
    let rest = lower_encoded octets (λ k. bytes (suc k)) in
    rw (digit_at (octet / 16) (omega arith), digit_at (octet % 16) (omega arith), rest) refl

-- a text has at most one list of octets
pub one_octets : (text a b : List ℕ) → IsHexadecimal text a → IsHexadecimal text b → a ≡ b
one_octets text a b is also = decode_of-same text a b ((decoded text a).0 is) ((decoded text b).0 also)

-- the text of octets is read back as them
pub lower_writes : (octets : List ℕ) → IsBytes octets → IsHexadecimal (lower_hexadecimal octets) octets
lower_writes octets bytes =
    (decoded (lower_hexadecimal octets) octets).1
    (rw (← lower_encoded octets bytes) (decode_of-encode_lower octets bytes))
