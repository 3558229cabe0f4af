-- From the place on none comes earlier, since the first there doesn't.
use Rattle.roa_origin.proofs.Common.{arith, get_or, ltb-false, get_or_default, sent_place, sent_change}
use Rattle.roa_origin.proofs.ChangesAsListed.{by_vrp}
use Rattle.roa_origin.proofs.updates.passed.Goals as goal

pub returns-else-is_sent_before-clause-searched : goal.returns-else-is_sent_before-clause-searched
returns-else-is_sent_before-clause-searched c =
    let xs = c.args.changes.now in
    let at = c.loop-at.at in
    let x = c.index-changes-at.result in
    let not_less = ltb-false (sent_change (get_or xs at x)) (sent_place c.args.vrp.now) (cc) in
    let up = by_vrp xs c.requires.in_order at in
    grind (arith, up, c.loop-at.invariant, c.loop-at-test.true, get_or_default xs at x)
