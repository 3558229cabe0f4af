-- The routes whose validity differs between two tables (RFC 6811, 4).
use Rattle.std.specs.Prelude.{◌≡◌, ◌≢◌, ◌⊎◌, ◌<◌, ℕ, List, ◌==◌, if◌then◌else◌, length}
use Rattle.std.specs.Ptr.{Ptr}
use Rattle.roa_origin.specs.Vrps.{Vrp}
use Rattle.roa_origin.specs.Lookups.{RouteLookup}
use Rattle.pigyelund_routes.specs.Lookups.{IsValidityFound}
use Rattle.pigyelund_routes.specs.Origins.{AreEach, IsOrigin}
use Rattle.pigyelund_routes.specs.Tables.{IsAsked}
use Rattle.pigyelund_routes.specs.Validities.{AreRoutesAnswered}
use Rattle.pigyelund_routes.specs.Written.{IsPutFor}
use Rattle.pigyelund_routes.specs.declared.route.Route.{Route}

-- ---- marks

-- 0 for equal numbers, and 1 for others.
abbrev pub change_mark : ℕ → ℕ → ℕ
change_mark one other = if one == other then 0 else 1

-- The octet is the mark of the validities that the lookups with this number in two tables find.
pub record IsChangeFound (befores afters : List RouteLookup) (k octet : ℕ) : Type 0 where
  pub before : ℕ
  pub after : ℕ
  pub was : IsValidityFound befores k before
  pub is : IsValidityFound afters k after
  pub mark : octet ≡ change_mark before after

-- ---- changes

-- The octet is 0 if the route has the same validity by both lists of VRPs, and 1 if it has another.
pub record IsRouteChange (old new : List Vrp) (r : Route) (octet : ℕ) : Type 0 where
  pub before : ℕ
  pub after : ℕ
  pub was : IsOrigin old r before
  pub is : IsOrigin new r after
  pub change : ((octet ≡ 0) × (before ≡ after)) ⊎ ((octet ≡ 1) × (before ≢ after))

-- ---- returned

-- The status is 0 and one octet for each route says whether its validity differs between two tables. Or it is 256 and
-- the buffer is too small, or it is that of the first invalid route. The buffer is unchanged then.
abbrev pub AreRoutesCompared : List Vrp → List Vrp → List Route → List ℕ → List ℕ → ℕ → ℕ → ℕ → Type 0
AreRoutesCompared old new routes before after len index result =
    AreRoutesAnswered routes
    (((result ≡ 0) × IsPutFor (AreEach (IsRouteChange old new) routes) before after)
    ⊎ ((result ≡ 256) × (length before < length routes) × (after ≡ before)))
    (after ≡ before) len index result

-- The changes of routes between two tables are returned.
abbrev pub AreRouteChangesReturned : Ptr → List Vrp → Ptr → List Vrp → List Route → List ℕ → List ℕ → ℕ → ℕ → ℕ
    → Type 0
AreRouteChangesReturned old_at old new_at new routes before after len index result =
    IsAsked old_at
    (IsAsked new_at (AreRoutesCompared old new routes before after len index result)
    ((after ≡ before) × (len ≡ 0) × (index ≡ 0)) result)
    ((after ≡ before) × (len ≡ 0) × (index ≡ 0)) result
