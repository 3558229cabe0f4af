-- When all VRPs are gone through, the changes are theirs.
use Rattle.roa_origin.proofs.Common.{arith}
use Rattle.roa_origin.proofs.ChangesAsListed.{listed, one_listed}
use Rattle.roa_origin.proofs.updates.listed_changes.Goals as goal

pub returns : goal.returns
returns g c = listed c.loop-place.invariant (omega (arith, c.loop-place-test.false))

pub loop-place-preserved : goal.loop-place-preserved
loop-place-preserved g c =
    let x = c.index-vrps-place in
    let new = c.new.ensures in
    rw c.in_ok-push.ensures.items
    (one_listed c.loop-place.invariant x.result _ c.loop-place-test.true x.is new.vrp new.place new.lawful)
