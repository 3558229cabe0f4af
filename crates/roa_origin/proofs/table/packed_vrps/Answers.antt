use Rattle.roa_origin.proofs.Common.{take_more, All-push, IsLawfulVrp}
use Rattle.roa_origin.proofs.table.packed_vrps.Goals as goal

pub loop-vrp-preserved : goal.loop-vrp-preserved
loop-vrp-preserved g c =
    let (same, lawful) = c.loop-vrp.invariant in
    let next = take_more _ _ c.vrp-item.result c.loop-vrp-test.true in (
      rw (c.in_ok-push.ensures.items, next, same, c.new.ensures.value, ← c.vrp-item.is),
      rw (c.in_ok-push.ensures.items, c.new.ensures.value) (All-push IsLawfulVrp _ _ lawful c.new.ensures.vrp),
    )
