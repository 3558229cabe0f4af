use Rattle.pigyelund_routes.proofs.Common.{arith}
use Rattle.pigyelund_routes.proofs.RouteLemmas.{v4_prefix}
use Rattle.pigyelund_routes.proofs.route.is_v4_prefix.Goals as goal

pub returns : goal.returns
returns c clear =
    v4_prefix c.args.family c.args.address c.args.len c.from.result (grind (arith)) (grind (arith)) (grind (arith))
    (grind (arith)) (grind (arith))
