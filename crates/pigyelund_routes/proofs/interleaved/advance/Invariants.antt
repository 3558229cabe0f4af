-- A step changes none of them.
use Rattle.pigyelund_routes.proofs.Common.{◌≡◌}
use Rattle.pigyelund_routes.proofs.interleaved.advance.Given as goal

abbrev pub invariant-loop-at : goal.invariant-loop-at
invariant-loop-at l = l.lookups ≡ l.fn.lookups
