-- A VRP that is announced is new, or its place is the first that isn't.
use Rattle.roa_origin.proofs.Common.{arith}
use Rattle.roa_origin.proofs.ChangeFaults.{duplicate, tested}
use Rattle.roa_origin.proofs.updates.first_duplicate.Goals as goal

pub returns-then-is_duplicate : goal.returns-then-is_duplicate
returns-then-is_duplicate c gone these =
    let packed = c.new-packed.ensures in
    let here = duplicate c.requires.changes packed.vrp _ c.loop-place-test.true c.index-announced-place.is these in
    (tested _ (rw packed.value at c.is_duplicate.ensures) here (c.loop-place.invariant gone these)).0
    c.if-is_duplicate.true

pub loop-place-preserved : goal.loop-place-preserved
loop-place-preserved c gone these =
    let packed = c.new-packed.ensures in
    let here = duplicate c.requires.changes packed.vrp _ c.loop-place-test.true c.index-announced-place.is these in
    (tested _ (rw packed.value at c.is_duplicate.ensures) here (c.loop-place.invariant gone these)).1
    c.if-is_duplicate.false

pub returns : goal.returns
returns c gone these k h = c.loop-place.invariant gone these k (let inside = h.within in omega (arith, inside)) h
