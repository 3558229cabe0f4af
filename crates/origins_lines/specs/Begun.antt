-- What is known of the answer to a line of routes, while its route is looked up in VRPs.
use Rattle.std.specs.Prelude.{◌≡◌, ℕ, List}
use Rattle.roa_origin.specs.Vrps.{Vrp}
use Rattle.origins_lines.specs.Outcomes.{asked_asn}
use Rattle.roa_routes.specs.Routes.{IsRouteLine, IsSkippedLine, HasRouteFault}
use Rattle.origins_lines.specs.declared.begun.AskedRoute.{AskedRoute}
use Rattle.origins_lines.specs.declared.begun.BegunRoute.{BegunRoute}
use Rattle.origins_lines.specs.declared.begun.BegunRoute.TheVariants.{Asked, Skipped, Wrong}

-- the lookup is of the prefix and of the AS of the route
pub record IsLookedUp (asked : AskedRoute) : Type 0 where
  pub prefix : asked.lookup.route ≡ asked.route.prefix
  pub asn : asked.lookup.asn ≡ asked_asn asked.route.origin

-- the value says what the line gives: a route, which is looked up in these VRPs, no route, or a fault
abbrev pub IsBegun : List Vrp → BegunRoute → List ℕ → Type 0
IsBegun vrps (Asked asked) line = IsRouteLine line asked.route × IsLookedUp asked × (asked.lookup.vrps ≡ vrps)
IsBegun vrps Skipped line = IsSkippedLine line
IsBegun vrps (Wrong fault) line = HasRouteFault line fault
