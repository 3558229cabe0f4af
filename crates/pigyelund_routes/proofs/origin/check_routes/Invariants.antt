-- The routes so far are prefixes.
use Rattle.pigyelund_routes.proofs.Common.{take}
use Rattle.pigyelund_routes.specs.Origins.{AreRoutes}
use Rattle.pigyelund_routes.proofs.origin.check_routes.Given as goal

abbrev pub invariant-loop-at : goal.invariant-loop-at
invariant-loop-at l = AreRoutes (take l.at l.fn.routes)
