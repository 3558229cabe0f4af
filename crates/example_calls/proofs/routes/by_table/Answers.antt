-- The table's VRPs are those of the list in another order.
use Rattle.example_calls.proofs.routes.by_table.Goals as goal

pub returns : goal.returns
returns g c =
    (c.laws_of_validities.ensures.any_order c.args.route c.args.asn c.args.vrps.now c.in_ok-table.table c.origin.result
    c.in_ok-table.ensures.vrps).1 c.origin.ensures
