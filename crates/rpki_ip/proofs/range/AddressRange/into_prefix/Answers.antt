-- There is one prefix at most.
use Rattle.rpki_ip.proofs.Common.{Ok, ap, rules, IsRangeOf}
use Rattle.rpki_ip.proofs.RangeLemmas.{one_prefix}
use Rattle.rpki_ip.proofs.range.AddressRange.into_prefix.Goals as goal

pub returns-in-Some-clause-found : goal.returns-in-Some-clause-found
returns-in-Some-clause-found c p is same =
    let found : IsRangeOf c.from_parts_unchecked.result c.args.self = search rules in
    ap Ok (one_prefix c.from_parts_unchecked.result p c.args.self c.from_parts_unchecked.ensures.prefix is found same)
