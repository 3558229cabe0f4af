-- What the first lookups find is written.
use Rattle.pigyelund_routes.specs.Lookups.{AreAppended, IsReasonFound, IsValidityFound}
use Rattle.pigyelund_routes.proofs.validities.end.Given as goal

abbrev pub invariant-loop-offset : goal.invariant-loop-offset
invariant-loop-offset l =
    AreAppended (IsValidityFound l.lookups) l.at l.offset l.fn.octets l.octets
    × AreAppended (IsReasonFound l.lookups) l.at l.offset l.fn.reasons l.reasons
