use Rattle.pigyelund_routes.proofs.Common.{[], IsVrp}
use Rattle.pigyelund_routes.specs.declared.route.RawVrp.{RawVrp as Handed}
use Rattle.pigyelund_routes.proofs.ValidityArrayLemmas.{one_more}
use Rattle.pigyelund_routes.proofs.origin.vrps_of.Goals as goal

-- what an index beyond the end would have
abbrev nothing : Handed
nothing = record { address = []; asn = 0; family = 0; len = 0; max_len = 0 }

pub loop-at-preserved : goal.loop-at-preserved
loop-at-preserved c =
    one_more IsVrp c.args.vrps.now c.loop-at.read.items _ c.loop-at.at nothing c.in-Ok.vrp c.loop-at-test.true
    c.in_ok-push-in-Ok.ensures.items c.loop-at.invariant c.in-Ok.ensures
