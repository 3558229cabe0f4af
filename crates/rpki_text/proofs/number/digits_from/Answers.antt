-- One more digit adds to the value.
use Rattle.rpki_text.proofs.Common.{arith, length, ◌-◌, ◌<◌}
use Rattle.rpki_text.proofs.NumberLemmas.{digit_more}
use Rattle.rpki_text.proofs.number.digits_from.Goals as goal

pub loop-end-preserved : goal.loop-end-preserved
loop-end-preserved c =
    let stop = c.few_end-stop.ensures.within in
    let few : c.loop-end.end - c.args.start < 10 =
    omega (arith, c.loop-end-test.true, stop.1, c.loop-end.invariant.in_order) in
    let left : c.loop-end.end < length c.args.text.now = omega (arith, c.loop-end-test.true, stop.0) in
    digit_more _ _ _ _ _ c.loop-end.invariant left few c.if-not-is_ascii_digit.ensures.cases c.from.ensures
