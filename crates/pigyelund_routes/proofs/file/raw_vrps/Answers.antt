-- One VRP more is in the form for C.
use Rattle.pigyelund_routes.proofs.Common.{handed_of}
use Rattle.std.proofs.lemmas.List.{map_more}
use Rattle.pigyelund_routes.proofs.file.raw_vrps.Goals as goal

pub loop-vrp-preserved : goal.loop-vrp-preserved
loop-vrp-preserved c =
    let next = map_more handed_of c.args.vrps.now c.loop-vrp.vrp-index c.vrp-item.result c.loop-vrp-test.true in
    rw (c.in_ok-push.ensures.items, c.loop-vrp.invariant, c.of.ensures, next, ← c.vrp-item.is)
