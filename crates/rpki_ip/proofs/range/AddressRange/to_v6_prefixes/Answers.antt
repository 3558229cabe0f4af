use Rattle.rpki_ip.proofs.Common.{◌∙◌, cover_prefixes}
use Rattle.rpki_ip.proofs.RangeCoverLemmas.{range_of}
use Rattle.rpki_ip.proofs.range.AddressRange.to_v6_prefixes.Goals as goal

pub returns-clause-cover : goal.returns-clause-cover
returns-clause-cover c =
    range_of 128 _ _ _ _ c.new.result (c.to_bits.ensures ∙ c.min-min.ensures.value)
    (c.to_bits-2.ensures ∙ c.max-max.ensures.value) c.new.ensures.cover

pub invariant_of-result : goal.invariant_of-result
invariant_of-result c = cover_prefixes 128 _ c.new.result c.new.ensures.cover.list
