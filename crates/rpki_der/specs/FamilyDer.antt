-- An address family in DER (RFC 3779, 2.2.3.3; RFC 6487, 4.8.10).
use Rattle.std.specs.Prelude.{◌≡◌, ℕ, List, [], ◌∷◌, length, slice_index, ◌&&◌, Result, Ok, Err, ◌==◌, if◌then◌else◌}
use Rattle.rpki_der.specs.declared.error.DerError.{DerError}
use Rattle.rpki_der.specs.declared.error.DerError.TheVariants.{BadFamily}
use Rattle.rpki_der.specs.Der.{IsOctetString, octet_string_value}
use Rattle.rpki_der.specs.Reading.{tagged_at, refined}
use Rattle.rpki_der.specs.declared.family.AddressFamily.{AddressFamily}
use Rattle.rpki_der.specs.declared.family.AddressFamily.TheVariants.{Ipv4, Ipv6}

-- the number of the family in two octets, without a subsequent address family identifier (RFC 3779, 2.2.3.3)
abbrev pub family_octets : AddressFamily → List ℕ
family_octets Ipv4 = 0 ∷ 1 ∷ []
family_octets Ipv6 = 0 ∷ 2 ∷ []

-- the content of an OCTET STRING names this family
abbrev pub SaysFamily : List ℕ → AddressFamily → Type 0
SaysFamily content family = content ≡ family_octets family

-- the octets are the OCTET STRING of the family
abbrev pub IsFamilyDer : List ℕ → AddressFamily → Type 0
IsFamilyDer bytes family = IsOctetString bytes (family_octets family)

-- the encoding of a family
abbrev pub family_der : AddressFamily → List ℕ
family_der family = octet_string_value (family_octets family)

-- ---- reading

-- the family that the octets name, or BadFamily
unfoldable pub family_of_octets : List ℕ → Result AddressFamily DerError
family_of_octets content =
    if (length content == 2) && (slice_index content 0 == 0) && (slice_index content 1 == 1) then Ok Ipv4 else
    if (length content == 2) && (slice_index content 0 == 0) && (slice_index content 1 == 2) then Ok Ipv6 else
    Err BadFamily

-- the family at the front of octets and the octets after it, or the first fault
abbrev pub family_at : List ℕ → Result (AddressFamily × List ℕ) DerError
family_at = refined (tagged_at 4) family_of_octets
