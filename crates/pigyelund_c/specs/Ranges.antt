-- The runs of a set, as pairs of numbers.
use Rattle.std.specs.Prelude.{◌≡◌, ◌≢◌, ℕ, ◌/◌, ◌^◌, List, [], ◌∷◌, ◌++◌, map}
use Rattle.std.specs.Int.{to_be_bytes, w128}
use Rattle.rpki_text.specs.Digits.{octets_of}
use Rattle.rpki_der.specs.declared.family.AddressFamily.{AddressFamily}
use Rattle.rpki_der.specs.declared.family.AddressFamily.TheVariants.{Ipv4, Ipv6}
use Rattle.rpki_resources.specs.Triples.{Triple, set_of_family}
use Rattle.rpki_extensions.specs.declared.encoding.Encoding.{Encoding}
use Rattle.pigyelund_routes.specs.Families.{family_number}
use Rattle.pigyelund_c.specs.Numbers.{encoding_number}
use Rattle.pigyelund_c.specs.Sets.{IsNoSet, IsSet}
use Rattle.pigyelund_c.specs.declared.cover.CoverError.{CoverError}
use Rattle.pigyelund_c.specs.declared.cover.CoverError.TheVariants.{Asked, Unread}
use Rattle.pigyelund_c.specs.declared.ranges.RawAsRange.{RawAsRange}
use Rattle.pigyelund_c.specs.declared.ranges.RawIpRange.{RawIpRange}
use Rattle.pigyelund_c.specs.declared.refusal.ArgumentError.TheVariants.{NoEncoding}

-- ---- AS numbers

-- A run of AS numbers in the form for C.
abbrev pub as_range : ℕ × ℕ → RawAsRange
as_range run = record { min = run.0; max = run.1 }

-- The list has the runs of the AS numbers in AS identifiers, in the encoding with this number.
abbrev pub AreAsRanges : List ℕ → ℕ → List RawAsRange → Type 0
AreAsRanges numbers encoding list =
    (way : Encoding) × (encoding ≡ encoding_number way)
    × ((set : Triple) × IsSet way numbers [] set × (list ≡ map as_range set.asn))

-- The number of the encoding is unknown, or else the octets list no set.
abbrev pub HaveNoAsRanges : List ℕ → ℕ → CoverError → Type 0
HaveNoAsRanges numbers encoding (Asked why) = (why ≡ NoEncoding) × ((way : Encoding) → encoding ≢ encoding_number way)
HaveNoAsRanges numbers encoding (Unread reason) =
    (way : Encoding) × (encoding ≡ encoding_number way) × IsNoSet way numbers [] reason

-- ---- addresses

-- The sixteen octets of an address of 128 bits, the most significant first. An IPv4 address is its first 32 bits, and
-- zeros follow its four octets.
abbrev pub bound_octets : AddressFamily → ℕ → List ℕ
bound_octets Ipv4 n = octets_of (n / 2 ^ 96) ++ 0 ∷ 0 ∷ 0 ∷ 0 ∷ 0 ∷ 0 ∷ 0 ∷ 0 ∷ 0 ∷ 0 ∷ 0 ∷ 0 ∷ []
bound_octets Ipv6 n = to_be_bytes w128 n

-- A run of addresses in the form for C.
abbrev pub ip_range : AddressFamily → ℕ × ℕ → RawIpRange
ip_range family run = record { min = bound_octets family run.0; max = bound_octets family run.1 }

-- The list has the runs of the addresses of one family in IP address blocks, in the encoding and of the family with
-- these numbers.
abbrev pub AreIpRanges : List ℕ → ℕ → ℕ → List RawIpRange → Type 0
AreIpRanges addresses encoding family list =
    (way : Encoding) × (encoding ≡ encoding_number way) × ((kind : AddressFamily) × (family ≡ family_number kind)
    × ((set : Triple) × IsSet way [] addresses set × (list ≡ map (ip_range kind) (set_of_family kind set))))
