-- The answer to the line of a route by VRPs (RFC 6811, 2): words, or an object of JSON (RFC 8259) without white space.
use Rattle.std.specs.Prelude.{◌≡◌, ◌⊎◌, ℕ, Bool, true, false, List, [], ◌++◌, Option, Some, None, codes}
use Rattle.std.specs.Str.{IsUtf8}
use Rattle.json.specs.Print.{quoted}
use Rattle.rpki_base.specs.AsnText.{asn_text}
use Rattle.rpki_prefix.specs.PrefixText.{prefix_text}
use Rattle.roa_origin.specs.Vrps.{Vrp}
use Rattle.origins_lines.specs.Explanations.{IsExplanationText}
use Rattle.origins_lines.specs.Outcomes.{IsOutcomeOf, asked_asn, outcome_text}
use Rattle.roa_routes.specs.Routes.{IsRouteLine, IsSkippedLine, HasRouteFault, route_fault_text}
use Rattle.origins_lines.specs.declared.explanation.Form.{Form}
use Rattle.origins_lines.specs.declared.explanation.Form.TheVariants.{Json, Words}
use Rattle.roa_routes.specs.declared.fault.RouteFault.{RouteFault}
use Rattle.origins_lines.specs.declared.outcome.Outcome.{Outcome}
use Rattle.origins_lines.specs.declared.outcome.Outcome.TheVariants.{Valid, InvalidLength, InvalidAs, NotFound}
use Rattle.roa_routes.specs.declared.route.Route.{Route}

-- ---- a route

-- the members that say the outcome: the state of the route (RFC 6811, 2), and for an invalid route the reason
abbrev pub outcome_members : Outcome → List ℕ
outcome_members Valid = codes "\"state\":\"valid\""
outcome_members InvalidLength = codes "\"state\":\"invalid\",\"reason\":\"length\""
outcome_members InvalidAs = codes "\"state\":\"invalid\",\"reason\":\"as\""
outcome_members NotFound = codes "\"state\":\"not-found\""

-- the AS of the origin as a string of JSON, or null if it is unknown
abbrev pub origin_value : Option ℕ → List ℕ
origin_value None = codes "null"
origin_value (Some asn) = codes "\"" ++ asn_text asn ++ codes "\""

-- the texts before the prefix and before the origin of a route
unfoldable pub route_prefix_key : List ℕ
route_prefix_key = codes ",\"prefix\":\""

unfoldable pub origin_key : List ℕ
origin_key = codes "\",\"origin_asn\":"

-- the beginning of the answer: the word for the outcome, or the members for the outcome, the prefix and the origin
abbrev pub answer_head : Form → Outcome → Route → List ℕ
answer_head Words outcome route = outcome_text outcome
answer_head Json outcome route =
    codes "{" ++ outcome_members outcome ++ route_prefix_key ++ prefix_text route.prefix ++ origin_key
    ++ origin_value route.origin

-- the end of the answer
abbrev pub answer_end : Form → List ℕ
answer_end Words = []
answer_end Json = codes "}"

-- the text is the explanation of a route if it is requested, and otherwise empty; in JSON it is a member
abbrev pub IsExplanationIf : Form → Bool → List Vrp → Route → List ℕ → Type 0
IsExplanationIf form false vrps route text = text ≡ []
IsExplanationIf Words true vrps route text =
    IsExplanationText Words route.prefix (asked_asn route.origin) vrps text
IsExplanationIf Json true vrps route text =
    (items : List ℕ) × IsExplanationText Json route.prefix (asked_asn route.origin) vrps items
    × (text ≡ codes ",\"vrps\":[" ++ items ++ codes "]")

-- the text is the outcome for the route, with its explanation if that is requested
abbrev pub IsRouteAnswer : Form → Bool → List Vrp → Route → List ℕ → Type 0
IsRouteAnswer form why vrps route text =
    (outcome : Outcome) × IsOutcomeOf route.prefix (asked_asn route.origin) vrps outcome × (explanation : List ℕ)
    × IsExplanationIf form why vrps route explanation
    × (text ≡ answer_head form outcome route ++ explanation ++ answer_end form)

-- ---- a line without a route

-- the answer to a line that announces no route
abbrev pub skipped_text : Form → List ℕ
skipped_text Words = codes "skipped"
skipped_text Json = codes "{\"state\":\"skipped\"}"

-- the text is the value for a line: a string of JSON (RFC 8259, 7), or null if the line is not UTF-8 (RFC 8259, 8.1)
abbrev pub IsLineValue : List ℕ → List ℕ → Type 0
IsLineValue line text = (IsUtf8 line × (text ≡ quoted line)) ⊎ ((¬ IsUtf8 line) × (text ≡ codes "null"))

-- the text is the answer to a fault: the fault, and in JSON also the line
abbrev pub IsFaultAnswer : Form → RouteFault → List ℕ → List ℕ → Type 0
IsFaultAnswer Words fault line text = text ≡ codes "error: " ++ route_fault_text fault
IsFaultAnswer Json fault line text =
    (value : List ℕ) × IsLineValue line value
    × (text
    ≡ codes "{\"state\":\"error\",\"error\":" ++ quoted (route_fault_text fault) ++ codes ",\"line\":" ++ value
    ++ codes "}")

-- ---- any line

-- the text is the answer to the line, by its route or its fault
abbrev pub IsAnswerIn : Form → Bool → List Vrp → List ℕ → List ℕ → Type 0
IsAnswerIn form why vrps line text =
    ((route : Route) × IsRouteLine line route × IsRouteAnswer form why vrps route text)
    ⊎ (IsSkippedLine line × (text ≡ skipped_text form))
    ⊎ ((fault : RouteFault) × HasRouteFault line fault × IsFaultAnswer form fault line text)
