use Rattle.rpki_ip_block.proofs.Common.{Ok, ap, arith, subst, sym, ◌∙◌, ◌≡◌, IsRangeOf, RangeValue, new_ip_block}
use Rattle.rpki_ip_block.proofs.BlockFormLemmas.{new_prefix, new_range}
use Rattle.rpki_ip_block.proofs.block.IpBlock.from_pair.Goals as goal

pub returns-in-Ok-clause-value : goal.returns-in-Ok-clause-value
returns-in-Ok-clause-value c =
    let of = c.in-Ok.ensures.prefix.1 in
    new_prefix _ c.in-Ok.ensures.prefix.0 ∙ (λ i. new_ip_block (sym of.begins i, sym of.ends i))
    ∙ ap (λ (r : RangeValue). new_ip_block (r.min, r.max)) c.from_pair.ensures

pub returns-in-Err-clause-value : goal.returns-in-Err-clause-value
returns-in-Err-clause-value c =
    let same : c.in-Err.range ≡ c.from_pair.result = c.in-Err.ensures.none in
    let max : c.in-Err.range.max ≡ c.args.pair.1 = ap (λ (r : RangeValue). r.max) (same ∙ c.from_pair.ensures) in
    new_range c.in-Err.range (omega (arith, max)) (λ p is of.
    let found : c.into_prefix.result ≡ Ok p = c.into_prefix.ensures.found p is (subst (IsRangeOf p) same of) in
    absurd (let z = c.in-Err.is in cc))
    ∙ ap (λ (r : RangeValue). new_ip_block (r.min, r.max)) (same ∙ c.from_pair.ensures)
