-- The VRPs that cover a route are written one after another.
use Rattle.pigyelund_routes.proofs.Common.{IsCovering}
use Rattle.pigyelund_routes.proofs.VrpArrayLemmas.{one_written}
use Rattle.pigyelund_routes.proofs.table.coverings_to.Goals as goal

pub loop-vrp-preserved : goal.loop-vrp-preserved
loop-vrp-preserved c =
    one_written (IsCovering c.args.route c.args.asn) _ _ _ _ _ _ _ c.in-Some.ensures.steps c.in_ok-push.ensures.items
    c.of.ensures c.loop-vrp.invariant
