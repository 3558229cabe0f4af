use Rattle.rpki_ip.proofs.Common.{None, Some, lit<, split_parts, dash, HasRangeFault, IsIpRangeBetween}
use Rattle.rpki_ip.proofs.RangeTextLemmas.{range_one, cut_answers, no_cut_answers}
use Rattle.rpki_ip.proofs.text.read_range.Goals as goal

pub returns-in-Some : goal.returns-in-Some
returns-in-Some c =
    let parts =
    split_parts dash c.args.text.now (Some (c.in-Some.left, c.in-Some.right)) c.in-Some.ensures.cases (lit< tt) in
    cut_answers dash c.args.text.now (IsIpRangeBetween c.args.wanted) (HasRangeFault c.args.wanted)
    (range_one c.args.wanted c.args.text.now) _ _ (record { split = parts.0; first = parts.1 })
    c.range_between.result c.range_between.ensures

pub returns-in-None : goal.returns-in-None
returns-in-None c =
    no_cut_answers dash c.args.text.now (IsIpRangeBetween c.args.wanted) (HasRangeFault c.args.wanted)
    (range_one c.args.wanted c.args.text.now)
    (split_parts dash c.args.text.now None c.in-None.ensures.cases (lit< tt))
