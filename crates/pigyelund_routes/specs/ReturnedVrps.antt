-- VRPs that are returned: those of a table, and those that cover a route, each with the reason why it does not match.
use Rattle.std.specs.Prelude.{◌≡◌, ◌⊎◌, ℕ, ◌+◌, ◌≤◌, List, [], ◌∷◌, ◌++◌, reverse}
use Rattle.std.specs.Int.{to_be_bytes, w128}
use Rattle.std.specs.List.Sorted.{IsNonDecreasingBy}
use Rattle.rpki_text.specs.Digits.{octets_of}
use Rattle.rpki_addr.specs.declared.addr.IpAddr.{IpAddr}
use Rattle.rpki_addr.specs.declared.addr.IpAddr.TheVariants.{V4, V6}
use Rattle.rpki_prefix.specs.Values.{FamilyPrefix}
use Rattle.roa_origin.specs.Coverings.{AreThose}
use Rattle.roa_origin.specs.Vrps.{CoversRoute, HasAs, Vrp, longest}
use Rattle.roa_origin.specs.Places.{table_place}
use Rattle.pigyelund_routes.specs.Origins.{AreEach}
use Rattle.pigyelund_routes.specs.Routes.{IsRoute, route_error_status}
use Rattle.pigyelund_routes.specs.declared.route.Covering.{Covering}
use Rattle.pigyelund_routes.specs.declared.route.RawVrp.{RawVrp as Handed}
use Rattle.pigyelund_routes.specs.declared.route.Route.{Route}
use Rattle.pigyelund_routes.specs.declared.route.RouteError.{RouteError}

-- ---- a VRP

-- The sixteen octets of an address, the most significant first. Zeros follow the four octets of an IPv4 address.
abbrev pub address_octets : IpAddr → List ℕ
address_octets (V4 n) = octets_of n ++ 0 ∷ 0 ∷ 0 ∷ 0 ∷ 0 ∷ 0 ∷ 0 ∷ 0 ∷ 0 ∷ 0 ∷ 0 ∷ 0 ∷ []
address_octets (V6 n) = to_be_bytes w128 n

-- The number of an address's family.
abbrev pub address_family : IpAddr → ℕ
address_family (V4 n) = 4
address_family (V6 n) = 6

-- The VRP in the form for C. Its maximum length is the prefix length if the VRP has none.
abbrev pub handed_of : Vrp → Handed
handed_of vrp = record {
  address = address_octets vrp.0.prefix.addr;
  asn = vrp.1;
  family = address_family vrp.0.prefix.addr;
  len = vrp.0.prefix.len;
  max_len = longest vrp;
}

-- ---- a VRP that covers a route

-- The reason why a VRP does not match the route, or 0 if it does. 1: its AS. 2: the route is longer than the VRP
-- allows. 3: both.
abbrev pub IsMismatch : FamilyPrefix → ℕ → Vrp → ℕ → Type 0
IsMismatch route asn vrp why =
    ((why ≡ 0) × HasAs asn vrp × (route.len ≤ longest vrp))
    ⊎ (((why ≡ 1) × (¬ HasAs asn vrp) × (route.len ≤ longest vrp))
    ⊎ (((why ≡ 2) × HasAs asn vrp × (¬ (route.len ≤ longest vrp)))
    ⊎ ((why ≡ 3) × (¬ HasAs asn vrp) × (¬ (route.len ≤ longest vrp)))))

-- The item is the VRP in the form for C, with the reason why it does not match the route.
pub record IsCovering (route : FamilyPrefix) (asn : ℕ) (vrp : Vrp) (item : Covering) : Type 0 where
  pub vrp_is : handed_of vrp ≡ item.vrp
  pub why : IsMismatch route asn vrp item.mismatch

-- The VRPs of a table that cover a route. The longest prefix comes first, then the least AS number, and then the
-- longest maximum length.
pub record AreCoveringsTo (table : List Vrp) (route : FamilyPrefix) (asn : ℕ) (item : List Covering) : Type 0 where
  pub vrps : List Vrp
  pub those : AreThose (CoversRoute route) table (reverse vrps)
  pub ordered : IsNonDecreasingBy table_place (reverse vrps)
  pub each : AreEach (IsCovering route asn) vrps item

-- The VRPs of a table that cover a route which a caller passes, each with the reason why it does not match.
abbrev pub AreCoveringsOf : List Vrp → Route → List Covering → Type 0
AreCoveringsOf table r item = (route : FamilyPrefix) × IsRoute r route × AreCoveringsTo table route r.asn item

-- The status of an invalid route.
abbrev pub route_status : RouteError → ℕ
route_status why = 16777216 + route_error_status why
