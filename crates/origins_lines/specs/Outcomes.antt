-- The outcome for a route by VRPs, in one word (RFC 6811, 2).
use Rattle.std.specs.Prelude.{ℕ, List, Option, codes, unwrap_or}
use Rattle.rpki_prefix.specs.Values.{FamilyPrefix}
use Rattle.roa_origin.specs.Vrps.{Vrp}
use Rattle.roa_origin.specs.Validities.{HasCoveringAsn, IsValidity}
use Rattle.roa_origin.specs.declared.validation.Validity.TheVariants as Validity
use Rattle.origins_lines.specs.declared.outcome.Outcome.{Outcome}
use Rattle.origins_lines.specs.declared.outcome.Outcome.TheVariants.{Valid, InvalidLength, InvalidAs, NotFound}

-- the AS number to look up for an origin; if the origin is unknown, it is AS0, which no VRP matches
abbrev pub asked_asn : Option ℕ → ℕ
asked_asn origin = unwrap_or origin 0

-- the outcome is the validity; for an invalid route it also says whether a VRP that covers the route has its AS
abbrev pub IsOutcomeOf : FamilyPrefix → ℕ → List Vrp → Outcome → Type 0
IsOutcomeOf route asn vrps Valid = IsValidity route asn vrps Validity.Valid
IsOutcomeOf route asn vrps InvalidLength = IsValidity route asn vrps Validity.Invalid × HasCoveringAsn route asn vrps
IsOutcomeOf route asn vrps InvalidAs = IsValidity route asn vrps Validity.Invalid × ¬ HasCoveringAsn route asn vrps
IsOutcomeOf route asn vrps NotFound = IsValidity route asn vrps Validity.NotFound

-- the text printed for an outcome
abbrev pub outcome_text : Outcome → List ℕ
outcome_text Valid = codes "valid"
outcome_text InvalidLength = codes "invalid-length"
outcome_text InvalidAs = codes "invalid-as"
outcome_text NotFound = codes "not-found"
