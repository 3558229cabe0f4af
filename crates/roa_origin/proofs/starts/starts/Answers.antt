use Rattle.roa_origin.proofs.Common.{arith, length-append}
use Rattle.roa_origin.proofs.FirstBits.{few_numbers, starts_more}
use Rattle.roa_origin.proofs.starts.starts.Goals as goal

pub loop-number-preserved : goal.loop-number-preserved
loop-number-preserved g c =
    let (len, each, _, _) = c.loop-number.invariant in
    let is = c.start_from-at.ensures in
    let more = starts_more _ _ _ _ _ len each is in
    rw c.in_ok-push.ensures.items
    (rw length-append (omega (arith, len)), more, is.within, λ k d small. omega (arith, is.before k d small))

pub returns : goal.returns
returns g c = grind (arith, few_numbers)
