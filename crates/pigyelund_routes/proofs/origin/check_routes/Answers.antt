-- One route more is a prefix.
use Rattle.pigyelund_routes.proofs.Common.{[], refl, ◌++◌, ◌∷◌, Route}
use Rattle.pigyelund_routes.specs.Routes.{IsRoute}
use Rattle.pigyelund_routes.proofs.ValidityArrayLemmas.{one_more}
use Rattle.pigyelund_routes.proofs.origin.check_routes.Goals as goal

-- what an index beyond the end would have
abbrev nothing : Route
nothing = record { address = []; asn = 0; family = 0; len = 0 }

pub loop-at-preserved : goal.loop-at-preserved
loop-at-preserved c =
    let (prefixes, each) = c.loop-at.invariant in
    let (prefix, is) = c.in-Ok.ensures in (
      prefixes ++ prefix ∷ [],
      one_more IsRoute c.args.routes.now prefixes _ c.loop-at.at nothing prefix c.loop-at-test.true refl each is,
    )
