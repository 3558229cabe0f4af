use Rattle.rpki_ip.proofs.Common.{None, Some, lit<, split_parts, slash, HasPrefixFault, IsPrefixBetween}
use Rattle.rpki_ip.proofs.RangeTextLemmas.{prefix_one, cut_answers, no_cut_answers}
use Rattle.rpki_ip.proofs.text.read_prefix.Goals as goal

pub returns-in-Some : goal.returns-in-Some
returns-in-Some c =
    let parts =
    split_parts slash c.args.text.now (Some (c.in-Some.left, c.in-Some.right)) c.in-Some.ensures.cases (lit< tt) in
    cut_answers slash c.args.text.now (IsPrefixBetween c.args.wanted) (HasPrefixFault c.args.wanted)
    (prefix_one c.args.wanted c.args.text.now) _ _ (record { split = parts.0; first = parts.1 })
    c.prefix_between.result c.prefix_between.ensures

pub returns-in-None : goal.returns-in-None
returns-in-None c =
    no_cut_answers slash c.args.text.now (IsPrefixBetween c.args.wanted) (HasPrefixFault c.args.wanted)
    (prefix_one c.args.wanted c.args.text.now)
    (split_parts slash c.args.text.now None c.in-None.ensures.cases (lit< tt))
