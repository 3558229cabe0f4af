use Rattle.rpki_cover.proofs.NestedPrefixes.{nested_share, prefixes_nested}
use Rattle.rpki_cover.proofs.laws.nested_prefixes.Goals as goal

pub returns : goal.returns
returns g w p q is_p is_q = (λ (n, in_p, in_q). prefixes_nested w p q is_p is_q n in_p in_q, nested_share w p q)
