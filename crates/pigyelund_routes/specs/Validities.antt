-- The validities of routes, and their reasons, that are written into buffers of a caller.
use Rattle.std.specs.Prelude.{◌≡◌, ◌⊎◌, ◌<◌, ℕ, List, [], length}
use Rattle.std.specs.Ptr.{Ptr}
use Rattle.roa_origin.specs.Vrps.{Vrp}
use Rattle.pigyelund_routes.specs.Origins.{AreEach, AreRoutes, IsFirstElementError, IsFirstRouteError, IsOrigin}
use Rattle.pigyelund_routes.specs.Origins.{element_error_index, element_error_status}
use Rattle.pigyelund_routes.specs.Reasons.{HasReason}
use Rattle.pigyelund_routes.specs.ReturnedVrps.{route_status}
use Rattle.pigyelund_routes.specs.Routes.{IsNoVrp, IsVrp}
use Rattle.pigyelund_routes.specs.Tables.{IsAsked}
use Rattle.pigyelund_routes.specs.Written.{IsPutFor}
use Rattle.pigyelund_routes.specs.declared.origin.ElementError.{ElementError}
use Rattle.pigyelund_routes.specs.declared.route.RawVrp.{RawVrp as Handed}
use Rattle.pigyelund_routes.specs.declared.route.Route.{Route}

-- All routes are valid, W holds, the length is their number, and the index is 0. Or the status and the index belong to
-- the first invalid route, U holds, and the length is 0. There is no other status, so the call takes no memory.
abbrev pub AreRoutesAnswered : List Route → Type 0 → Type 0 → ℕ → ℕ → ℕ → Type 0
AreRoutesAnswered routes W U len index result =
    (AreRoutes routes × W × (len ≡ length routes) × (index ≡ 0))
    ⊎ ((first : ElementError) × IsFirstRouteError routes first × U × (result ≡ route_status first.reason) × (len ≡ 0)
    × (index ≡ first.at))

-- The validities of routes are at the front of a buffer. So are their reasons in another one, unless it is empty.
abbrev pub AreValiditiesPut : List Vrp → List Route → List ℕ → List ℕ → List ℕ → List ℕ → Type 0
AreValiditiesPut table routes before after why_before why_after =
    IsPutFor (AreEach (IsOrigin table) routes) before after
    × (((length why_before ≡ 0) × (why_after ≡ why_before))
    ⊎ ((0 < length why_before) × IsPutFor (AreEach (HasReason table) routes) why_before why_after))

-- The buffer for validities is too small, or that for reasons is and is not empty.
abbrev pub AreTooSmall : ℕ → List ℕ → List ℕ → Type 0
AreTooSmall count before why_before =
    (length before < count) ⊎ ((0 < length why_before) × (length why_before < count))

-- The status is 0 and the validities and reasons are written, or it is 256, a buffer is too small and both are
-- unchanged, or it is that of the first invalid route and both are unchanged.
abbrev pub AreRoutesValidated : List Vrp → List Route → List ℕ → List ℕ → List ℕ → List ℕ → ℕ → ℕ → ℕ → Type 0
AreRoutesValidated table routes before after why_before why_after len index result =
    AreRoutesAnswered routes
    (((result ≡ 0) × AreValiditiesPut table routes before after why_before why_after)
    ⊎ ((result ≡ 256) × AreTooSmall (length routes) before why_before × (after ≡ before) × (why_after ≡ why_before)))
    ((after ≡ before) × (why_after ≡ why_before)) len index result

-- The validities of routes by a table, and their reasons, are returned.
abbrev pub AreTableOriginsReturned : Ptr → List Vrp → List Route → List ℕ → List ℕ → List ℕ → List ℕ → ℕ → ℕ → ℕ
    → Type 0
AreTableOriginsReturned at table routes before after why_before why_after len index result =
    IsAsked at (AreRoutesValidated table routes before after why_before why_after len index result)
    ((after ≡ before) × (why_after ≡ why_before) × (len ≡ 0) × (index ≡ 0)) result

-- The validities of routes by VRPs that a caller passes are returned. Or the status and the index belong to the first
-- invalid VRP, or the status is 512, and nothing is written.
abbrev pub AreOriginsReturned : List Handed → List Route → List ℕ → List ℕ → ℕ → ℕ → ℕ → Type 0
AreOriginsReturned handed routes before after len index result =
    ((vrps : List Vrp) × AreEach IsVrp handed vrps × AreRoutesValidated vrps routes before after [] [] len index result)
    ⊎ (((first : ElementError) × IsFirstElementError IsVrp IsNoVrp handed first
    × (result ≡ element_error_status first) × (index ≡ element_error_index first) × (after ≡ before) × (len ≡ 0))
    ⊎ ((result ≡ 512) × (after ≡ before) × (len ≡ 0) × (index ≡ 0)))
