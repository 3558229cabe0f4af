use Rattle.pigyelund_routes.proofs.Common.{IsCovering}
use Rattle.pigyelund_routes.proofs.VrpArrayLemmas.{SoFar}
use Rattle.pigyelund_routes.proofs.table.coverings_to.Given as goal

-- the VRPs so far are written
abbrev pub invariant-loop-vrp : goal.invariant-loop-vrp
invariant-loop-vrp l = SoFar (IsCovering l.fn.route l.fn.asn) l.initial.vrp-iterator l.vrp-iterator l.list.items
