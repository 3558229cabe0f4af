-- The texts of VRPs and routes that a caller passes or receives, and the routes of lines.
use Rattle.std.specs.Prelude.{◌≡◌, ◌⊎◌, ◌≤◌, ℕ, ◌+◌, List, [], ◌∷◌, ◌++◌, Option, None, Some, unwrap_or}
use Rattle.rpki_prefix.specs.Values.{FamilyPrefix}
use Rattle.rpki_text.specs.Lines.{lines_of}
use Rattle.roa_origin.specs.Vrps.{Vrp}
use Rattle.roa_routes.specs.Routes.{HasRouteFault, HasRouteTextFault, IsReadLine, IsRouteText}
use Rattle.roa_routes.specs.Texts.{HasVrpTextFault, IsVrpText, route_text, vrp_text}
use Rattle.roa_routes.specs.declared.fault.RouteFault.{RouteFault}
use Rattle.roa_routes.specs.declared.fault.RouteFault.TheVariants.{NotUtf8, TooFewFields, CommaForSpace, OtherWord}
use Rattle.roa_routes.specs.declared.fault.RouteFault.TheVariants.{Prefix, Asn}
use Rattle.roa_routes.specs.declared.route.Route.{Route as LineRoute}
use Rattle.roa_vrps.specs.declared.fault.VrpFault.{VrpFault}
use Rattle.pigyelund_routes.specs.Origins.{IsAnsweredAt}
use Rattle.pigyelund_routes.specs.ReturnedVrps.{address_family, address_octets, handed_of}
use Rattle.pigyelund_routes.specs.Routes.{IsNoRoute, IsNoVrp, IsRoute, IsVrp, route_error_status}
use Rattle.pigyelund_routes.specs.VrpFiles.{vrp_fault_number}
use Rattle.pigyelund_routes.specs.Written.{AreWritten}
use Rattle.pigyelund_routes.specs.declared.lines.LineFault.{LineFault}
use Rattle.pigyelund_routes.specs.declared.route.RawVrp.{RawVrp as Handed}
use Rattle.pigyelund_routes.specs.declared.route.Route.{Route}
use Rattle.pigyelund_routes.specs.declared.route.RouteError.{RouteError}

-- ---- a text that is read

-- Sixteen octets that are 0.
abbrev pub no_address : List ℕ
no_address = 0 ∷ 0 ∷ 0 ∷ 0 ∷ 0 ∷ 0 ∷ 0 ∷ 0 ∷ 0 ∷ 0 ∷ 0 ∷ 0 ∷ 0 ∷ 0 ∷ 0 ∷ 0 ∷ []

-- The VRP whose members are 0. It is invalid, since no family has the number 0.
abbrev pub no_vrp : Handed
no_vrp = record { address = no_address; asn = 0; family = 0; len = 0; max_len = 0 }

-- The route whose members are 0. It is invalid, since no family has the number 0.
abbrev pub no_route : Route
no_route = record { address = no_address; asn = 0; family = 0; len = 0 }

-- The route of a line in the form for C. An unknown origin is AS0, which no VRP matches.
abbrev pub passed_of : LineRoute → Route
passed_of route = record {
  address = address_octets route.prefix.addr;
  asn = unwrap_or route.origin 0;
  family = address_family route.prefix.addr;
  len = route.prefix.len;
}

-- The number of the fault of a line with a route, or of the text of a route.
abbrev pub route_fault_number : RouteFault → ℕ
route_fault_number NotUtf8 = 1
route_fault_number TooFewFields = 2
route_fault_number CommaForSpace = 3
route_fault_number OtherWord = 4
route_fault_number (Prefix fault) = 5
route_fault_number (Asn fault) = 6

-- The text is that of a VRP, which is stored. Or it has a first fault, to whose number 131072 is added, and the members
-- are 0.
abbrev pub IsVrpTextRead : List ℕ → Handed → ℕ → Type 0
IsVrpTextRead text out result =
    ((vrp : Vrp) × IsVrpText text vrp × (out ≡ handed_of vrp) × (result ≡ 0))
    ⊎ ((fault : VrpFault) × HasVrpTextFault text fault × (out ≡ no_vrp) × (result ≡ 131072 + vrp_fault_number fault))

-- The text is that of a route, which is stored. Or it has a first fault, to whose number 8388608 is added, and the
-- members are 0.
abbrev pub IsRouteTextRead : List ℕ → Route → ℕ → Type 0
IsRouteTextRead text out result =
    ((route : LineRoute) × IsRouteText text route × (out ≡ passed_of route) × (result ≡ 0))
    ⊎ ((fault : RouteFault) × HasRouteTextFault text fault × (out ≡ no_route)
    × (result ≡ 8388608 + route_fault_number fault))

-- ---- a text that is written

-- The text is written, and has at most this length. Or the value is invalid, and nothing is written.
abbrev pub IsTextWritten : {X : Type 0} → (X → Type 0) → (X → List ℕ) → ℕ → (RouteError → Type 0) → List ℕ → List ℕ
    → ℕ → ℕ → Type 0
IsTextWritten {X} Is text_of limit IsNot before after len result =
    ((x : X) × Is x × AreWritten (text_of x) before after len result × (len ≤ limit))
    ⊎ ((why : RouteError) × IsNot why × (result ≡ route_error_status why) × (after ≡ before) × (len ≡ 0))

-- The text of a VRP is written.
abbrev pub IsVrpTextWritten : Handed → List ℕ → List ℕ → ℕ → ℕ → Type 0
IsVrpTextWritten handed = IsTextWritten (IsVrp handed) vrp_text 61 (IsNoVrp handed)

-- The text of a route is written.
abbrev pub IsRouteTextWritten : Route → List ℕ → List ℕ → ℕ → ℕ → Type 0
IsRouteTextWritten r = IsTextWritten (IsRoute r) (λ (prefix : FamilyPrefix). route_text prefix r.asn) 57 (IsNoRoute r)

-- ---- the routes of lines

-- What is read of a line, as a list of routes in the form for C.
abbrev pub routes_of : Option LineRoute → List Route
routes_of None = []
routes_of (Some route) = passed_of route ∷ []

-- The lines are valid, and these are their routes.
abbrev pub AreLineRoutes : List (List ℕ) → List Route → Type 0
AreLineRoutes [] routes = routes ≡ []
AreLineRoutes (line ∷ lines) routes =
    (read : Option LineRoute) × IsReadLine line read × (more : List Route) × (routes ≡ routes_of read ++ more)
    × AreLineRoutes lines more

-- The first invalid line and its fault. The first line has the given number.
abbrev pub HaveFirstFault : ℕ → List (List ℕ) → LineFault → Type 0
HaveFirstFault number [] first = ⊥
HaveFirstFault number (line ∷ lines) first =
    (HasRouteFault line first.fault × (first.number ≡ number))
    ⊎ ((read : Option LineRoute) × IsReadLine line read × HaveFirstFault (number + 1) lines first)

-- The status of the first invalid line: 8388608 is added.
abbrev pub line_fault_status : LineFault → ℕ
line_fault_status first = 8388608 + route_fault_number first.fault

-- The number of the first invalid line.
abbrev pub line_fault_number : LineFault → ℕ
line_fault_number first = first.number

-- The routes of the lines of a text are returned, or its first invalid line.
abbrev pub AreLineRoutesReturned : List ℕ → List Route → List Route → ℕ → ℕ → ℕ → Type 0
AreLineRoutesReturned text =
    IsAnsweredAt LineFault (AreLineRoutes (lines_of text)) line_fault_status line_fault_number
    (HaveFirstFault 1 (lines_of text))
