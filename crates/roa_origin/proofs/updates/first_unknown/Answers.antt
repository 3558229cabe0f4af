-- A VRP that is withdrawn is known, or its place is the first that isn't.
use Rattle.roa_origin.proofs.Common.{arith}
use Rattle.roa_origin.proofs.ChangeFaults.{tested, unknown}
use Rattle.roa_origin.proofs.updates.first_unknown.Goals as goal

pub returns-then-is_unknown : goal.returns-then-is_unknown
returns-then-is_unknown c =
    let packed = c.new-packed.ensures in
    let here = unknown c.requires.changes packed.vrp _ c.loop-place-test.true c.index-withdrawn-place.is in
    (tested _ (rw packed.value at c.is_unknown.ensures) here c.loop-place.invariant).0 c.if-is_unknown.true

pub loop-place-preserved : goal.loop-place-preserved
loop-place-preserved c =
    let packed = c.new-packed.ensures in
    let here = unknown c.requires.changes packed.vrp _ c.loop-place-test.true c.index-withdrawn-place.is in
    (tested _ (rw packed.value at c.is_unknown.ensures) here c.loop-place.invariant).1 c.if-is_unknown.false

pub returns : goal.returns
returns c k h = c.loop-place.invariant k (let inside = h.within in omega (arith, inside)) h
