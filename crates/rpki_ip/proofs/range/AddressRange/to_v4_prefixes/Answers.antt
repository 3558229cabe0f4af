use Rattle.rpki_ip.proofs.Common.{ap, arith, refl, ◌/◌, ◌^◌, ◌∙◌, ◌≡◌, IsWithin, cover_prefixes, whole_cover}
use Rattle.rpki_ip.proofs.Common.{IsShortestCover}
use Rattle.rpki_ip.proofs.RangeCoverLemmas.{range_of}
use Rattle.rpki_ip.proofs.range.AddressRange.to_v4_prefixes.Goals as goal

last : (c : goal.After-new) → c.from-2.result ≡ c.args.self.max / 2 ^ 96
last c = c.from-2.ensures ∙ c.to_bits-2.ensures ∙ c.to_v4-max.ensures ∙ ap (λ n. n / 2 ^ 96) c.max.ensures.value

short : (c : goal.After-new)
    → IsShortestCover 32 (IsWithin (c.args.self.min / 2 ^ 96, c.args.self.max / 2 ^ 96)) c.new.result
short c =
    let min = c.from.ensures ∙ c.to_bits.ensures ∙ c.to_v4-min.ensures ∙ ap (λ n. n / 2 ^ 96) c.min.ensures.value in
    range_of 32 _ _ _ _ c.new.result min (last c) c.new.ensures.cover

pub returns-clause-cover : goal.returns-clause-cover
returns-clause-cover c = record { short = c.new.result; lists = (short c).list; widens = refl }

pub returns-clause-whole : goal.returns-clause-whole
returns-clause-whole c whole =
    whole_cover c.args.self.min c.args.self.max c.new.result whole.begins whole.ends
    (omega (arith, last c, c.from-2.ensures, c.to_bits-2.type_inv)) (short c).list

pub invariant_of-result : goal.invariant_of-result
invariant_of-result c = cover_prefixes 32 _ c.new.result c.new.ensures.cover.list
