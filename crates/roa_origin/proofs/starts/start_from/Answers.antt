-- From the place on the first bits write no less, since at the place they don't.
use Rattle.roa_origin.proofs.Common.{arith, get_or, get_or_default}
use Rattle.roa_origin.proofs.FirstBits.{first_up}
use Rattle.roa_origin.proofs.starts.start_from.Goals as goal

pub returns-else-first_bits-number : goal.returns-else-first_bits-number
returns-else-first_bits-number c =
    let xs = c.args.vrps.now in
    let at = c.loop-at.at in
    let x = c.index-vrps-at in
    let r = c.requires in
    let up = first_up c.args.bits (get_or xs at x.result).0.prefix in
    let ensured = c.first_bits.ensures.value in
    let there = c.loop-at-test.true in
    let key = c.route_key.ensures.route in
    grind
    (arith, x.is, key, ensured, c.loop-at.invariant, get_or_default xs at x.result, r.few, r.ordered at, r.prefixes)
