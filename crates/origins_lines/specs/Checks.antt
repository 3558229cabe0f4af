-- The lines that a check looks for: at a place they have 'i' or 'e', as the answers to invalid routes and errors do.
use Rattle.std.specs.Prelude.{◌≡◌, ◌==◌, ◌&&◌, ◌||◌, ℕ, ◌+◌, ◌<◌, ◌⊎◌, Bool, false, List, [], ◌∷◌}
use Rattle.std.specs.Prelude.{length, min, nat_le, not, slice_index_or, take, if◌then◌else◌}
use Rattle.roa_origin.specs.Validities.{IsValidity}
use Rattle.roa_origin.specs.Vrps.{Vrp}
use Rattle.roa_origin.specs.declared.validation.Validity.TheVariants.{Invalid}
use Rattle.origins_lines.specs.Outcomes.{asked_asn}
use Rattle.roa_routes.specs.Routes.{HasRouteFault, IsRouteLine}
use Rattle.origins_lines.specs.declared.check.Seen.{Seen}
use Rattle.roa_routes.specs.declared.fault.RouteFault.{RouteFault}
use Rattle.roa_routes.specs.declared.route.Route.{Route}

-- the octet is 'i' or 'e'
abbrev pub IsFaultInitial : ℕ → Type 0
IsFaultInitial octet = (octet ≡ 105) ⊎ (octet ≡ 101)

-- the number of octets of its line that are before the next octet, if there are `column` before this one
abbrev pub next_column : ℕ → ℕ → ℕ
next_column column octet = if octet == 10 then 0 else column + 1

-- the number of octets after the last 0a; the number before the first octet is `column`
abbrev pub column_after : ℕ → List ℕ → ℕ
column_after column [] = column
column_after column (octet ∷ octets) = column_after (next_column column octet) octets

-- the number of octets of its line that are before the octet at an index
abbrev pub column_of : List ℕ → ℕ → ℕ
column_of octets at = column_after 0 (take at octets)

-- a line of the octets has 'i' or 'e' after `place` other octets
abbrev pub HasFound : ℕ → List ℕ → Type 0
HasFound place octets =
    (at : ℕ) × (at < length octets) × (column_of octets at ≡ place) × IsFaultInitial (slice_index_or octets at 0)

-- the line gives a route that is invalid by the VRPs (RFC 6811, 2), or it has a fault
abbrev pub IsFaultyLine : List Vrp → List ℕ → Type 0
IsFaultyLine vrps line =
    ((route : Route) × IsRouteLine line route × IsValidity route.prefix (asked_asn route.origin) vrps Invalid)
    ⊎ ((fault : RouteFault) × HasRouteFault line fault)

-- whether the octet is 'i' or 'e' at the place, if `column` octets of its line are before it
abbrev pub is_found_at : ℕ → ℕ → ℕ → Bool
is_found_at place column octet = column == place && (octet == 105 || octet == 101)

-- whether a line of the octets has 'i' or 'e' at the place; `column` octets of its line are before the first octet
abbrev pub is_found_in : ℕ → ℕ → List ℕ → Bool
is_found_in place column [] = false
is_found_in place column (octet ∷ octets) =
    is_found_at place column octet || is_found_in place (next_column column octet) octets

-- the column after one more octet
abbrev pub column_with : Seen → ℕ → ℕ
column_with seen octet =
    if octet == 10 then 0 else (if nat_le seen.column seen.place then seen.column + 1 else seen.column)

-- the state after one more octet
abbrev pub seen_with : Seen → ℕ → Seen
seen_with seen octet = record {
  place = seen.place;
  column = column_with seen octet;
  has_found = seen.has_found || is_found_at seen.place seen.column octet;
}

-- whether the state is that of a check of these octets: the octets of the last line, at most one more than the place,
-- and whether a line has 'i' or 'e' at the place
abbrev pub is_state_after : Seen → List ℕ → Bool
is_state_after seen octets =
    seen.column == min (column_after 0 octets) (seen.place + 1)
    && (if seen.has_found then is_found_in seen.place 0 octets else not (is_found_in seen.place 0 octets))
