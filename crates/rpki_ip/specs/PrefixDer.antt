-- A prefix in DER (RFC 3779, 2.2.3.8; X.690, 8.6 and 11.2).
use Rattle.std.specs.Prelude.{◌≡◌, ℕ, ◌+◌, ◌-◌, ◌*◌, ◌/◌, ◌^◌, ◌≤◌, Bool, List, ◌||◌, length, take, Result, Ok, Err}
use Rattle.std.specs.Prelude.{nat_lt, if◌then◌else◌}
use Rattle.std.specs.Int.{w128, to_be_bytes}
use Rattle.rpki_cover.specs.Prefixes.{PrefixValue, IsPrefix}
use Rattle.rpki_der.specs.declared.error.DerError.{DerError}
use Rattle.rpki_der.specs.declared.error.DerError.TheVariants.{BadPrefix}
use Rattle.rpki_der.specs.Der.{Bits, IsBitContent, IsBitString, IsPadded, Refines, Where, big_endian, bit_count}
use Rattle.rpki_der.specs.Der.{bit_string_value}
use Rattle.rpki_der.specs.Reading.{◌>>=◌, bits, is_padded, passing, refined, tagged_at}

-- A bit string of at most 16 octets denotes the prefix of its used bits, followed by zeros up to 128 bits. The unused
-- bits have any values and count as zero. The limit is the maximum prefix length.
pub record SaysPrefix (limit : ℕ) (b : Bits) (p : PrefixValue) : Type 0 where
  pub few : length b.octets ≤ 16
  pub len : p.len + b.unused ≡ 8 * length b.octets
  pub short : p.len ≤ limit
  pub first : p.first ≡ big_endian b.octets / 2 ^ b.unused * 2 ^ (128 - p.len)

-- the content of a BIT STRING denotes the prefix (X.690, 8.6)
abbrev pub IsPrefixContent : ℕ → List ℕ → PrefixValue → Type 0
IsPrefixContent limit = Refines IsBitContent (SaysPrefix limit)

-- the octets are a BIT STRING that denotes the prefix (RFC 3779, 2.2.3.8)
abbrev pub IsPrefixDer : ℕ → List ℕ → PrefixValue → Type 0
IsPrefixDer limit = Refines IsBitString (SaysPrefix limit)

-- ---- encodings

-- the number of octets for the first len bits of an address
abbrev pub octet_count : ℕ → ℕ
octet_count len = (len + 7) / 8

-- the bits of a prefix, in the fewest octets; the unused bits are zero, as they are in its first address
abbrev pub prefix_bits : PrefixValue → Bits
prefix_bits p =
    record { unused = 8 * octet_count p.len - p.len; octets = take (octet_count p.len) (to_be_bytes w128 p.first) }

-- the encoding of a prefix as a BIT STRING (RFC 3779, 2.2.3.8; X.690, 11.2)
abbrev pub prefix_der : PrefixValue → List ℕ
prefix_der p = bit_string_value (prefix_bits p)

-- ---- reading

-- reads the bits as a prefix: BadPrefix for more than 16 octets or for more bits than the limit
unfoldable pub prefix_of : ℕ → Bits → Result PrefixValue DerError
prefix_of limit b =
    if nat_lt 16 (length b.octets) || nat_lt limit (bit_count b) then Err BadPrefix else
    Ok (record { first = big_endian b.octets / 2 ^ b.unused * 2 ^ (128 - bit_count b); len = bit_count b })

-- reads the content of a BIT STRING as a prefix
unfoldable pub prefix_in : ℕ → List ℕ → Result PrefixValue DerError
prefix_in limit content = bits content >>= prefix_of limit

-- reads the BIT STRING (tag 3) of a prefix at the front of octets, and returns the octets after it
abbrev pub prefix_at : ℕ → List ℕ → Result (PrefixValue × List ℕ) DerError
prefix_at limit = refined (tagged_at 3) (prefix_in limit)

-- ---- strict and lenient mode

-- a prefix of at most limit bits
abbrev pub IsPrefixWithin : ℕ → PrefixValue → Type 0
IsPrefixWithin limit p = IsPrefix 128 p × (p.len ≤ limit)

-- a content that denotes the prefix, with all unused bits zero (X.690, 11.2.1)
abbrev pub IsStrictContent : ℕ → List ℕ → PrefixValue → Type 0
IsStrictContent limit = Refines (Where IsBitContent IsPadded) (SaysPrefix limit)

-- the octets are a BIT STRING that denotes the prefix, with all unused bits zero (X.690, 11.2.1)
abbrev pub IsStrictPrefix : ℕ → List ℕ → PrefixValue → Type 0
IsStrictPrefix limit = Refines (Where IsBitString IsPadded) (SaysPrefix limit)

-- reads the bits as a prefix in either mode: strict mode also requires unused bits of zero, after the length is checked
unfoldable pub prefix_of_by : Bool → ℕ → Bits → Result PrefixValue DerError
prefix_of_by strict limit b = prefix_of limit b >>= passing strict (λ p. is_padded b)

-- reads the content of a BIT STRING as a prefix, in either mode
unfoldable pub prefix_in_by : Bool → ℕ → List ℕ → Result PrefixValue DerError
prefix_in_by strict limit content = bits content >>= prefix_of_by strict limit

-- reads the BIT STRING of a prefix at the front of octets, in either mode
abbrev pub prefix_by : Bool → ℕ → List ℕ → Result (PrefixValue × List ℕ) DerError
prefix_by strict limit = refined (tagged_at 3) (prefix_in_by strict limit)
