-- Each turn takes the next VRP, of the table or announced.
use Rattle.roa_origin.proofs.Common.{arith, take_all}
use Rattle.roa_origin.proofs.TableUpdates.{advanced, comes, goes, in_order, run}
use Rattle.roa_origin.proofs.updates.updated.Goals as goal

pub loop-at-preserved-then-announced_is_next : goal.loop-at-preserved-then-announced_is_next
loop-at-preserved-then-announced_is_next g c =
    let next = c.announced_is_next.ensures.announced c.if-announced_is_next.true in
    rw c.in_ok-push.ensures.items (comes c.loop-at.invariant _ next.0 (next.1 c.index-announced-come.result))

pub loop-at-preserved-then-stands_at : goal.loop-at-preserved-then-stands_at
loop-at-preserved-then-stands_at g c =
    let small = (c.announced_is_next.ensures.table c.if-announced_is_next.false).0 in
    let p = c.index-table-at in
    let gone = c.passed-gone.ensures in
    goes (advanced c.loop-at.invariant p.result small p.is _ gone.within gone.searched) p.result small p.is
    (c.stands_at.ensures.0 c.if-stands_at.true)

pub loop-at-preserved : goal.loop-at-preserved
loop-at-preserved g c =
    let small = (c.announced_is_next.ensures.table c.if-announced_is_next.false).0 in
    let p = c.index-table-at in
    let gone = c.passed-gone.ensures in
    let end = c.run_end-end.ensures in
    let so_far = advanced c.loop-at.invariant p.result small p.is _ gone.within gone.searched in
    rw c.in_ok-extend_from_slice.ensures.items (run so_far end.within end.before end.up_to (omega (arith, end.some)))

pub returns-clause-in_order : goal.returns-clause-in_order
returns-clause-in_order g c = in_order c.loop-at.invariant

pub returns-clause-updated : goal.returns-clause-updated
returns-clause-updated g c =
    let table = take_all c.loop-at.at c.args.table.now c.if-at-table.false in
    let announced = take_all c.loop-at.come c.args.announced.now c.if-come-announced.false in
    rw (table, announced) at c.loop-at.invariant.listed
