-- Routes that a table's VRPs make invalid (RFC 6811, 2), and prefixes outside a certificate's resources (RFC 9582, 5).
use Rattle.std.specs.Prelude.{◌≡◌, ℕ, List, length, Some, HoldsAt}
use Rattle.rpki_prefix.specs.MaxLen.{MaxLenValue}
use Rattle.rpki_prefix.specs.Values.{FamilyPrefix}
use Rattle.rpki_resources.specs.Triples.{Triple}
use Rattle.roa_check.specs.Inside.{IsFirstOutside}
use Rattle.roa_origin.specs.Coverings.{AreThose}
use Rattle.roa_origin.specs.Vrps.{Vrp}
use Rattle.roa_origin.specs.Validities.{IsRouteCovered, IsMatched}

-- the value of a route in contracts: its prefix, and the number of the AS that originates it
abbrev pub Route : Type 0
Route = FamilyPrefix × ℕ

-- a VRP covers the route, and none matches it (RFC 6811, 2: 'Invalid')
abbrev pub IsInvalid : List Vrp → Route → Type 0
IsInvalid vrps route = IsRouteCovered route.0 vrps × ¬ IsMatched route.0 route.1 vrps

-- count is the number of invalid routes; a repeated route counts each time
abbrev pub IsCountOfInvalid : List Vrp → List Route → ℕ → Type 0
IsCountOfInvalid vrps routes count =
    (invalid : List Route) × AreThose (IsInvalid vrps) routes invalid × (count ≡ length invalid)

-- the prefix is the first one that isn't inside its family's set
abbrev pub IsFirstExcess : Triple → List MaxLenValue → MaxLenValue → Type 0
IsFirstExcess set prefixes prefix =
    (at : ℕ) × IsFirstOutside set prefixes (Some at) × HoldsAt (λ e. e ≡ prefix) prefixes at
