-- Octets in hexadecimal: two digits each, first that of the four high bits, then that of the four low bits (RFC 4648,
-- 8).
use Rattle.std.specs.Prelude.{◌≡◌, ℕ, ◌+◌, ◌*◌, ◌/◌, ◌%◌, ◌<◌, List, [], ◌∷◌, ⊤}
use Rattle.std.specs.Char.{digit_value, digit_char}

-- the two digits, each of either case, write the octet
pub record IsPairOf (high low octet : ℕ) : Type 0 where
  pub high_digit : digit_value high < 16
  pub low_digit : digit_value low < 16
  pub value : octet ≡ digit_value high * 16 + digit_value low

-- the text is these octets in hexadecimal, with digits of either case
unfoldable pub IsHexadecimal : List ℕ → List ℕ → Type 0
IsHexadecimal [] [] = ⊤
IsHexadecimal [] (octet ∷ octets) = ⊥
IsHexadecimal (high ∷ []) octets = ⊥
IsHexadecimal (high ∷ low ∷ text) [] = ⊥
IsHexadecimal (high ∷ low ∷ text) (octet ∷ octets) = IsPairOf high low octet × IsHexadecimal text octets

-- the octets in hexadecimal, in lower case
unfoldable pub lower_hexadecimal : List ℕ → List ℕ
lower_hexadecimal [] = []
lower_hexadecimal (octet ∷ octets) = digit_char (octet / 16) ∷ digit_char (octet % 16) ∷ lower_hexadecimal octets
