-- Strictly, the octets of a block are those that are written of it.
use Rattle.rpki_ip_block.proofs.Common.{List, ap, arith, eqb, refl, subst, true, ℕ, ◌++◌, ◌∙◌, ◌≡◌, ◌≤◌, and_parts}
use Rattle.rpki_ip_block.proofs.Common.{eq-eqb, eqb-true, pow_pos, last_of, fits_content, same_reading, IsBytes, Spells}
use Rattle.rpki_ip_block.proofs.Common.{IsReading, IsStrictPrefix, prefix_is_spelled, spelled_is_prefix, within}
use Rattle.rpki_ip_block.proofs.Common.{prefix_der, is_written_as, range_content, without_end_ones, without_end_zeros}
use Rattle.rpki_ip_block.proofs.Common.{RangeValue, range_bounds, IsSetIpBlock, ip_block_der, ip_block_modal}
use Rattle.rpki_ip_block.proofs.Common.{IsStrictIpBlock, ip_block_by, is_range, is_set_range, span, new_ip_block}
use Rattle.rpki_ip_block.proofs.Common.{IpBlock, Prefix, Range, range_spelled, IsSpan, and_from}
use Rattle.rpki_der.proofs.ReadingSteps.{fits_back, fits_front}
use Rattle.rpki_ip.proofs.ShortestPrefixes.{shortest_to_is}
use Rattle.rpki_ip_block.proofs.BlockFormLemmas.{new_prefix}

-- what strict cursors take is what is written of a block that sets have
pub set_block_is : (limit : ℕ) (bytes : List ℕ) (block : IpBlock) → limit ≤ 128 → IsBytes bytes
    → IsStrictIpBlock limit bytes block → Spells (IsSetIpBlock limit) ip_block_der bytes block
set_block_is limit bytes (Prefix p) le fits is =
    let spelled = prefix_is_spelled limit bytes p le fits is in
    ((spelled.0, new_prefix p spelled.0.0), spelled.1)
set_block_is limit bytes (Range r) le fits (content, sequence, (p, q, (rest, front, last), (from_to, test))) =
    let inside : IsBytes content = fits_content bytes 48 content sequence fits in
    let fits_both : IsBytes (front.0 ++ rest) = subst IsBytes front.2 inside in
    let one = prefix_is_spelled limit front.0 p le (fits_front front.0 rest fits_both) front.1 in
    let two = prefix_is_spelled limit rest q le (fits_back front.0 rest fits_both) last in
    let range = within limit p q r le one.0.0 one.0.1 two.0.0 two.0.1 from_to in
    let parts = and_parts (is_written_as (span p q) p q) (is_range (new_ip_block (range_bounds (span p q)))) test in
    let lens = and_parts (eqb p.len (without_end_zeros p.first).len) (eqb q.len _) parts.0 in
    let p-is : p ≡ without_end_zeros r.min = grind (arith, eqb-true p.len (without_end_zeros p.first).len lens.0) in
    let q-len = eqb-true q.len (without_end_ones (last_of 128 q)).len lens.1 in
    let q-is : q ≡ without_end_ones r.max = grind (arith, pow_pos, q-len, shortest_to_is) in
    let whole : content ≡ range_content r = front.2 ∙ ap (λ (t : List ℕ). t ++ rest) (one.1 ∙ ap prefix_der p-is)
    ∙ ap (λ (t : List ℕ). prefix_der (without_end_zeros r.min) ++ t) (two.1 ∙ ap prefix_der q-is) in
    grind arith

-- and what is written of one is what they take
set_range : (r : RangeValue) → r.max ≡ last_of 128 (without_end_ones r.max) → Range r ≡ new_ip_block (range_bounds r)
    → is_set_range (without_end_zeros r.min) (without_end_ones r.max) ≡ true
set_range r ends form = grind (arith, and_from, eq-eqb)

pub is_set_block : (limit : ℕ) (bytes : List ℕ) (block : IpBlock) → limit ≤ 128
    → Spells (IsSetIpBlock limit) ip_block_der bytes block → IsStrictIpBlock limit bytes block
is_set_block limit bytes (Prefix p) le ((is, form), spelled) = spelled_is_prefix limit bytes p (is, spelled)
is_set_block limit bytes (Range r) le ((is, form), spelled) =
    rw spelled (range_spelled limit r le is (IsStrictPrefix limit)
    (λ p is. spelled_is_prefix limit (prefix_der p) p (is, refl)) (λ p q r. IsSpan p q r × (is_set_range p q ≡ true))
    (λ to. (to, set_range r to.ends form)))

pub set_block_reading : (limit : ℕ) → limit ≤ 128
    → IsReading (Spells (IsSetIpBlock limit) ip_block_der) (ip_block_by true limit)
set_block_reading limit le =
    same_reading (IsStrictIpBlock limit) (Spells (IsSetIpBlock limit) ip_block_der) (ip_block_by true limit)
    (λ bytes block. set_block_is limit bytes block le) (λ bytes block. is_set_block limit bytes block le)
    (ip_block_modal limit).tight
