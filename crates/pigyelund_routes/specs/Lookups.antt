-- Lookups in a table for routes that a caller passes, and what they find.
use Rattle.std.specs.Prelude.{◌≡◌, ◌<◌, ◌≤◌, ◌+◌, ◌-◌, ℕ, List, length, slice_index, slice_index_or}
use Rattle.roa_origin.specs.Vrps.{Vrp}
use Rattle.roa_origin.specs.Lookups.{RouteLookup}
use Rattle.roa_origin.specs.Validities.{IsValidity}
use Rattle.roa_origin.specs.declared.validation.Validity.{Validity}
use Rattle.pigyelund_routes.specs.Origins.{validity_number}
use Rattle.pigyelund_routes.specs.Reasons.{IsReason}
use Rattle.pigyelund_routes.specs.Routes.{IsRoute}
use Rattle.pigyelund_routes.specs.declared.route.Route.{Route}

-- The lookup is that of the route in these VRPs.
pub record IsLookupIn (vrps : List Vrp) (r : Route) (lookup : RouteLookup) : Type 0 where
  pub vrps_are : lookup.vrps ≡ vrps
  pub is_route : IsRoute r lookup.route
  pub asn : lookup.asn ≡ r.asn

-- The first n lookups are those of the routes from an index on, as far as there are routes.
abbrev pub AreBegun : List Vrp → List Route → ℕ → ℕ → List RouteLookup → Type 0
AreBegun vrps routes at n lookups =
    (k : ℕ) (r : Route) (s : RouteLookup) → k < n → at + k < length routes
    → IsLookupIn vrps (slice_index_or routes (at + k) r) (slice_index_or lookups k s)

-- The octet is the validity that the lookup finds.
abbrev pub IsLookupValidity : RouteLookup → ℕ → Type 0
IsLookupValidity lookup octet =
    (validity : Validity) × IsValidity lookup.route lookup.asn lookup.vrps validity × (octet ≡ validity_number validity)

-- The octet is the reason of the validity that the lookup finds.
abbrev pub IsLookupReason : RouteLookup → ℕ → Type 0
IsLookupReason lookup octet =
    (validity : Validity) × IsValidity lookup.route lookup.asn lookup.vrps validity
    × IsReason lookup.route lookup.asn lookup.vrps validity octet

-- ---- octets that are written from an index on

-- The octets before an index are the old ones. R holds for the number of each of the next n octets and for the octet.
abbrev pub AreAppended : (ℕ → ℕ → Type 0) → ℕ → ℕ → List ℕ → List ℕ → Type 0
AreAppended R at n before after =
    (k : ℕ) → k < at + n → k < length before
    → (k < at → slice_index after k ≡ slice_index before k) × (at ≤ k → R (k - at) (slice_index after k))

-- The octet is the validity that the lookup with this number finds.
abbrev pub IsValidityFound : List RouteLookup → ℕ → ℕ → Type 0
IsValidityFound lookups k octet =
    (lookup : RouteLookup) × (slice_index_or lookups k lookup ≡ lookup) × IsLookupValidity lookup octet

-- The octet is the reason of the validity that the lookup with this number finds.
abbrev pub IsReasonFound : List RouteLookup → ℕ → ℕ → Type 0
IsReasonFound lookups k octet =
    (lookup : RouteLookup) × (slice_index_or lookups k lookup ≡ lookup) × IsLookupReason lookup octet
