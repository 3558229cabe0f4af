-- Shortest covers: the fewest prefixes that have exactly the addresses of a set.
use Rattle.std.specs.Prelude.{◌≡◌, ◌≢◌, ◌⊎◌, ℕ, List, [], map}
use Rattle.rpki_cover.specs.Prefixes.{PrefixValue}
use Rattle.rpki_chain.specs.Runs.{Runs, Holds}
use Rattle.rpki_cover.specs.Covers.{IsShortestCover}
use Rattle.rpki_der.specs.declared.family.AddressFamily.{AddressFamily}
use Rattle.rpki_resources.specs.Triples.{Triple, set_of_family}
use Rattle.rpki_extensions.specs.declared.encoding.Encoding.{Encoding}
use Rattle.pigyelund_routes.specs.Families.{family_number}
use Rattle.pigyelund_routes.specs.declared.route.RawPrefix.{RawPrefix}
use Rattle.pigyelund_c.specs.Numbers.{encoding_number}
use Rattle.pigyelund_c.specs.Ranges.{bound_octets}
use Rattle.pigyelund_c.specs.Sets.{IsNoSet, IsSet}
use Rattle.pigyelund_c.specs.Statuses.{argument_error_status, read_set_error_status}
use Rattle.pigyelund_c.specs.declared.cover.CoverError.{CoverError}
use Rattle.pigyelund_c.specs.declared.cover.CoverError.TheVariants.{Asked, Unread}
use Rattle.pigyelund_c.specs.declared.refusal.ArgumentError.TheVariants.{NoEncoding, NoFamily}

-- A prefix of a family in the form for C.
abbrev pub raw_prefix : AddressFamily → PrefixValue → RawPrefix
raw_prefix family p = record { address = bound_octets family p.first; family = family_number family; len = p.len }

-- The list has the prefixes of the shortest cover of a set, in the form for C.
abbrev pub ArePrefixesOf : AddressFamily → Runs → List RawPrefix → Type 0
ArePrefixesOf family set list =
    (ps : List PrefixValue) × IsShortestCover 128 (Holds set) ps × (list ≡ map (raw_prefix family) ps)

-- The list is the shortest cover of the addresses of one family in IP address blocks.
abbrev pub IsCoverIn : Encoding → AddressFamily → List ℕ → List RawPrefix → Type 0
IsCoverIn encoding family addresses list =
    (set : Triple) × IsSet encoding [] addresses set × ArePrefixesOf family (set_of_family family set) list

-- The list is the cover in the encoding and of the family with these numbers.
abbrev pub IsCover : List ℕ → ℕ → ℕ → List RawPrefix → Type 0
IsCover addresses encoding family list =
    (way : Encoding) × (encoding ≡ encoding_number way)
    × ((kind : AddressFamily) × (family ≡ family_number kind) × IsCoverIn way kind addresses list)

-- The number of the encoding is unknown, or else the number of the family is, or else the octets list no set.
abbrev pub IsNoCover : List ℕ → ℕ → ℕ → CoverError → Type 0
IsNoCover addresses encoding family (Asked why) =
    ((why ≡ NoEncoding) × ((way : Encoding) → encoding ≢ encoding_number way))
    ⊎ ((why ≡ NoFamily) × ((way : Encoding) × (encoding ≡ encoding_number way))
    × ((kind : AddressFamily) → family ≢ family_number kind))
IsNoCover addresses encoding family (Unread reason) =
    (way : Encoding) × (encoding ≡ encoding_number way) × ((kind : AddressFamily) × (family ≡ family_number kind))
    × IsNoSet way [] addresses reason

-- The status of the reason why there is no cover.
abbrev pub cover_error_status : CoverError → ℕ
cover_error_status (Asked why) = argument_error_status why
cover_error_status (Unread reason) = read_set_error_status reason
