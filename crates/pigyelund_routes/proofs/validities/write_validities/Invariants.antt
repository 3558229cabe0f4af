-- The validities and reasons of the routes so far are written.
use Rattle.pigyelund_routes.proofs.Common.{get_or, length, IsOrigin, ℕ, ◌<◌}
use Rattle.std.proofs.Common.{◌-◌, ◌≤◌}
use Rattle.pigyelund_routes.specs.Reasons.{HasReason}
use Rattle.pigyelund_routes.specs.declared.route.Route.{Route}
use Rattle.pigyelund_routes.proofs.validities.write_validities.Given as goal

abbrev pub invariant-loop-at : goal.invariant-loop-at
invariant-loop-at l =
    (l.at ≤ length l.fn.routes)
    × ((r : Route) (k : ℕ) → k < l.at → k < length l.octets
    → IsOrigin l.fn.table (get_or l.fn.routes k r) (get_or l.octets k 0))
    × ((r : Route) (k : ℕ) → k < l.at → k < length l.reasons
    → HasReason l.fn.table (get_or l.fn.routes k r) (get_or l.reasons k 0))

abbrev pub decreases-loop-at : goal.decreases-loop-at
decreases-loop-at l = length l.fn.routes - l.at
