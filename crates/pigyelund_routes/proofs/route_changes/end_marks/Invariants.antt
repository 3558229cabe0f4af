-- The marks of what the first lookups find are written.
use Rattle.pigyelund_routes.specs.Lookups.{AreAppended}
use Rattle.pigyelund_routes.specs.RouteChanges.{IsChangeFound}
use Rattle.pigyelund_routes.proofs.route_changes.end_marks.Given as goal

abbrev pub invariant-loop-offset : goal.invariant-loop-offset
invariant-loop-offset l = AreAppended (IsChangeFound l.befores l.afters) l.at l.offset l.fn.octets l.octets
