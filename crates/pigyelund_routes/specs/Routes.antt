-- VRPs and routes as a caller passes them (RFC 6811, 2).
use Rattle.std.specs.Prelude.{◌≡◌, ◌≢◌, ℕ, List, Some, slice_range}
use Rattle.std.specs.Int.{from_be_bytes, w32, w128}
use Rattle.rpki_addr.specs.declared.addr.IpAddr.{IpAddr}
use Rattle.rpki_addr.specs.declared.addr.IpAddr.TheVariants.{V4, V6}
use Rattle.rpki_der.specs.declared.family.AddressFamily.{AddressFamily}
use Rattle.rpki_der.specs.declared.family.AddressFamily.TheVariants.{Ipv4, Ipv6}
use Rattle.rpki_prefix.specs.MaxLen.{HasMaxLenError, IsMaxLenOf}
use Rattle.rpki_prefix.specs.Values.{FamilyPrefix, HasPrefixError, IsPrefixOf}
use Rattle.rpki_prefix.specs.declared.error.MaxLenError.{MaxLenError}
use Rattle.rpki_prefix.specs.declared.error.PrefixError.{PrefixError}
use Rattle.roa_origin.specs.Vrps.{Vrp}
use Rattle.pigyelund_routes.specs.Families.{family_number}
use Rattle.pigyelund_routes.specs.declared.route.RawPrefix.{RawPrefix as Passed}
use Rattle.pigyelund_routes.specs.declared.route.RawVrp.{RawVrp as Handed}
use Rattle.pigyelund_routes.specs.declared.route.Route.{Route}
use Rattle.pigyelund_routes.specs.declared.route.RouteError.{RouteError}
use Rattle.pigyelund_routes.specs.declared.route.RouteError.TheVariants.{NoFamily, NoPrefix, NoMaxLen}

-- The address with these octets, the most significant first. An IPv4 address is the first four of sixteen.
abbrev pub address_in : AddressFamily → List ℕ → IpAddr
address_in Ipv4 octets = V4 (from_be_bytes w32 (slice_range octets 0 4))
address_in Ipv6 octets = V6 (from_be_bytes w128 octets)

-- ---- a prefix

-- The number of a family, the octets of an address and a length are this prefix.
pub record HasPrefix (family : ℕ) (address : List ℕ) (len : ℕ) (p : FamilyPrefix) : Type 0 where
  pub kind : AddressFamily
  pub is_kind : family ≡ family_number kind
  pub is : IsPrefixOf (address_in kind address) len p

-- The number of the family is unknown, or else the address and the length are not a prefix.
abbrev pub HasNoPrefix : ℕ → List ℕ → ℕ → RouteError → Type 0
HasNoPrefix family address len NoFamily = (kind : AddressFamily) → family ≢ family_number kind
HasNoPrefix family address len NoPrefix =
    (kind : AddressFamily) × (family ≡ family_number kind)
    × ((why : PrefixError) × HasPrefixError (address_in kind address) len why)
HasNoPrefix family address len NoMaxLen = ⊥

-- ---- a prefix, a route, and a VRP

-- The numbers and octets of a prefix are this prefix.
abbrev pub IsPrefixPassed : Passed → FamilyPrefix → Type 0
IsPrefixPassed passed p = HasPrefix passed.family passed.address passed.len p

-- The reason why the numbers and octets of a prefix are no prefix.
abbrev pub IsNoPrefixPassed : Passed → RouteError → Type 0
IsNoPrefixPassed passed why = HasNoPrefix passed.family passed.address passed.len why

-- The numbers and octets of a route are this prefix.
abbrev pub IsRoute : Route → FamilyPrefix → Type 0
IsRoute r p = HasPrefix r.family r.address r.len p

-- The reason why the numbers and octets of a route are not a prefix.
abbrev pub IsNoRoute : Route → RouteError → Type 0
IsNoRoute r why = HasNoPrefix r.family r.address r.len why

-- The numbers and octets are this VRP: a prefix, a maximum length of it, and the AS.
pub record IsVrp (handed : Handed) (vrp : Vrp) : Type 0 where
  pub prefix : HasPrefix handed.family handed.address handed.len vrp.0.prefix
  pub max_len : vrp.0.max_len ≡ Some handed.max_len
  pub is_max_len : IsMaxLenOf vrp.0.prefix (Some handed.max_len)
  pub asn : vrp.1 ≡ handed.asn

-- The prefix is invalid, or else the maximum length is.
abbrev pub IsNoVrp : Handed → RouteError → Type 0
IsNoVrp handed NoFamily = HasNoPrefix handed.family handed.address handed.len NoFamily
IsNoVrp handed NoPrefix = HasNoPrefix handed.family handed.address handed.len NoPrefix
IsNoVrp handed NoMaxLen =
    (p : FamilyPrefix) × HasPrefix handed.family handed.address handed.len p
    × ((why : MaxLenError) × HasMaxLenError p (Some handed.max_len) why)

-- The status of an invalid VRP, and of an invalid route before 16777216 is added.
abbrev pub route_error_status : RouteError → ℕ
route_error_status NoFamily = 1028
route_error_status NoPrefix = 1030
route_error_status NoMaxLen = 1031
