-- Each route is a prefix.
use Rattle.pigyelund_routes.proofs.Common.{arith, ◌+◌}
use Rattle.pigyelund_routes.specs.Routes.{IsRoute}
use Rattle.pigyelund_routes.proofs.ValidityArrayLemmas.{each_at}
use Rattle.pigyelund_routes.proofs.interleaved.lookup_at.Goals as goal

pub lookup_of-requires : goal.lookup_of-requires
lookup_of-requires c =
    let (prefixes, each) = c.requires.valid in
    each_at IsRoute c.args.routes.now prefixes each (c.args.at + c.min.result) _ (omega (arith, c.min.ensures))
