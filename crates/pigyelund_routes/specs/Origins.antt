-- The validity of routes that a caller passes, by VRPs that it passes (RFC 6811, 2).
use Rattle.std.specs.Prelude.{◌≡◌, ◌⊎◌, ℕ, ◌<◌, List, [], ◌∷◌, length, slice_index_or, take}
use Rattle.rpki_prefix.specs.Values.{FamilyPrefix}
use Rattle.roa_origin.specs.Vrps.{Vrp}
use Rattle.roa_origin.specs.Validities.{IsValidity}
use Rattle.roa_origin.specs.declared.validation.Validity.{Validity}
use Rattle.roa_origin.specs.declared.validation.Validity.TheVariants.{Valid, Invalid, NotFound}
use Rattle.pigyelund_routes.specs.Routes.{IsNoRoute, IsRoute, route_error_status}
use Rattle.pigyelund_routes.specs.Written.{AreWritten}
use Rattle.pigyelund_routes.specs.declared.origin.ElementError.{ElementError}
use Rattle.pigyelund_routes.specs.declared.route.Route.{Route}
use Rattle.pigyelund_routes.specs.declared.route.RouteError.{RouteError}

-- ---- arrays

-- There are as many ys as xs, and R holds for each x and the y with its index.
abbrev pub AreEach : {X Y : Type 0} → (X → Y → Type 0) → List X → List Y → Type 0
AreEach R [] ys = ys ≡ []
AreEach {X} {Y} R (x ∷ xs) ys = (y : Y) × R x y × ((rest : List Y) × (ys ≡ y ∷ rest) × AreEach R xs rest)

-- R holds for each x before an index, and the x at this index is invalid for the given reason.
abbrev pub IsFirstElementError : {X Y : Type 0} → (X → Y → Type 0) → (X → RouteError → Type 0) → List X → ElementError
    → Type 0
IsFirstElementError {X} {Y} R N xs first =
    (x : X) × (first.at < length xs) × (slice_index_or xs first.at x ≡ x)
    × ((ys : List Y) × AreEach R (take first.at xs) ys × N x first.reason)

-- The numbers and octets of each route are a prefix.
abbrev pub AreRoutes : List Route → Type 0
AreRoutes routes = (prefixes : List FamilyPrefix) × AreEach IsRoute routes prefixes

-- The first invalid route.
abbrev pub IsFirstRouteError : List Route → ElementError → Type 0
IsFirstRouteError routes first = IsFirstElementError IsRoute IsNoRoute routes first

-- ---- validities

-- The number of a validity (RFC 8097, 2).
abbrev pub validity_number : Validity → ℕ
validity_number Valid = 0
validity_number NotFound = 1
validity_number Invalid = 2

-- The octet is the validity of a route by VRPs.
pub record IsOrigin (vrps : List Vrp) (r : Route) (octet : ℕ) : Type 0 where
  pub prefix : FamilyPrefix
  pub is_route : IsRoute r prefix
  pub validity : Validity
  pub is_validity : IsValidity prefix r.asn vrps validity
  pub number : octet ≡ validity_number validity

-- ---- statuses

-- The status of the first invalid element of an array of VRPs.
abbrev pub element_error_status : ElementError → ℕ
element_error_status first = route_error_status first.reason

-- The index of the first invalid element of an array.
abbrev pub element_error_index : ElementError → ℕ
element_error_index first = first.at

-- Items for which P holds are returned. Otherwise the status and the index belong to a reason for which N holds, or the
-- status is 512, and nothing is written.
abbrev pub IsAnsweredAt : {X : Type 0} → (R : Type 0) → (List X → Type 0) → (R → ℕ) → (R → ℕ) → (R → Type 0) → List X
    → List X → ℕ → ℕ → ℕ → Type 0
IsAnsweredAt {X} R P status index_of N before after len index result =
    ((items : List X) × P items × AreWritten items before after len result × (index ≡ 0))
    ⊎ (((reason : R) × N reason × (result ≡ status reason) × (index ≡ index_of reason) × (after ≡ before) × (len ≡ 0))
    ⊎ ((result ≡ 512) × (after ≡ before) × (len ≡ 0) × (index ≡ 0)))
