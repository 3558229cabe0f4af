-- The next VRP covers the route, and those that the walk has passed don't match it.
use Rattle.roa_origin.proofs.LinkSteps.{IsLeft}
use Rattle.roa_origin.proofs.LinkWalks.{steps}
use Rattle.roa_origin.proofs.table.validity_by.Given as goal

abbrev pub invariant-loop-vrp : goal.invariant-loop-vrp
invariant-loop-vrp l = IsLeft l.route.0 l.route.1 l.vrps l.links l.at l.link l.has_covering_asn

-- each turn gets to a shorter prefix
abbrev pub decreases-loop-vrp : goal.decreases-loop-vrp
decreases-loop-vrp l = steps l.vrps l.at
