-- The validities and reasons of the routes so far are written.
use Rattle.pigyelund_routes.proofs.Common.{get_or, length, IsOrigin, ℕ, ◌<◌}
use Rattle.pigyelund_routes.specs.Reasons.{HasReason}
use Rattle.pigyelund_routes.specs.SeveralTables.{all_vrps}
use Rattle.pigyelund_routes.specs.declared.route.Route.{Route}
use Rattle.pigyelund_routes.proofs.several_tables.write_each.Given as goal

abbrev pub invariant-loop-at : goal.invariant-loop-at
invariant-loop-at l =
    ((r : Route) (k : ℕ) → k < l.at → k < length l.octets
    → IsOrigin (all_vrps l.fn.tables) (get_or l.fn.routes k r) (get_or l.octets k 0))
    × ((r : Route) (k : ℕ) → k < l.at → k < length l.reasons
    → HasReason (all_vrps l.fn.tables) (get_or l.fn.routes k r) (get_or l.reasons k 0))
