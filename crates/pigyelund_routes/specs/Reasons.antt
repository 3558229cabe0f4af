-- The validity of one route, and the reason why it is invalid.
use Rattle.std.specs.Prelude.{◌≡◌, ◌≢◌, ◌⊎◌, ℕ, Bool, true, false, List}
use Rattle.std.specs.Ptr.{Ptr}
use Rattle.rpki_prefix.specs.Values.{FamilyPrefix}
use Rattle.roa_origin.specs.Vrps.{Vrp}
use Rattle.roa_origin.specs.Validities.{HasCoveringAsn, IsValidity}
use Rattle.roa_origin.specs.declared.validation.Validity.{Validity}
use Rattle.roa_origin.specs.declared.validation.Validity.TheVariants.{Valid, Invalid, NotFound}
use Rattle.pigyelund_routes.specs.Origins.{validity_number}
use Rattle.pigyelund_routes.specs.ReturnedVrps.{route_status}
use Rattle.pigyelund_routes.specs.Routes.{IsNoRoute, IsRoute}
use Rattle.pigyelund_routes.specs.Tables.{IsAsked}
use Rattle.pigyelund_routes.specs.declared.route.Route.{Route}
use Rattle.pigyelund_routes.specs.declared.route.RouteError.{RouteError}

-- The number of the reason, by the validity and by whether a VRP that covers the route has its AS.
abbrev pub reason_number : Validity → Bool → ℕ
reason_number Valid has_as = 0
reason_number NotFound has_as = 0
reason_number Invalid true = 2
reason_number Invalid false = 1

-- The reason is 0 unless the route is invalid. 1: no VRP that covers the route has its AS. 2: a VRP that covers the
-- route has its AS, so the route is longer than this VRP allows.
abbrev pub IsReason : FamilyPrefix → ℕ → List Vrp → Validity → ℕ → Type 0
IsReason route asn vrps validity reason =
    ((reason ≡ 0) × (validity ≢ Invalid))
    ⊎ (((reason ≡ 1) × (validity ≡ Invalid) × ¬ HasCoveringAsn route asn vrps)
    ⊎ ((reason ≡ 2) × (validity ≡ Invalid) × HasCoveringAsn route asn vrps))

-- The numbers are the validity of a route by VRPs, and its reason.
pub record IsValidated (vrps : List Vrp) (r : Route) (number why : ℕ) : Type 0 where
  pub prefix : FamilyPrefix
  pub is_route : IsRoute r prefix
  pub validity : Validity
  pub is_validity : IsValidity prefix r.asn vrps validity
  pub is_number : number ≡ validity_number validity
  pub is_reason : IsReason prefix r.asn vrps validity why

-- The octet is the reason of the validity of a route by VRPs.
abbrev pub HasReason : List Vrp → Route → ℕ → Type 0
HasReason vrps r why = (number : ℕ) × IsValidated vrps r number why

-- The validity of a route by a table and its reason are returned. With any status but 0 they are 255 and 0.
abbrev pub IsValidatedReturned : Ptr → List Vrp → Route → ℕ → ℕ → ℕ → Type 0
IsValidatedReturned at table r validity reason result =
    IsAsked at
    ((IsValidated table r validity reason × (result ≡ 0))
    ⊎ ((why : RouteError) × IsNoRoute r why × (result ≡ route_status why) × (validity ≡ 255) × (reason ≡ 0)))
    ((validity ≡ 255) × (reason ≡ 0)) result
