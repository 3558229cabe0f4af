-- Facts about the readings of blocks of addresses in either mode. Readers of lists depend on them.
use Rattle.std.proofs.Common.{◌≡◌, ℕ, Bool, true, List, Option, Ok, refl, sym, subst, arith, inl, inr}
use Rattle.rpki_der.specs.SequenceReading.{SaysByTag}
use Rattle.rpki_der.proofs.SequenceModes.{by_tag_tightens, tested_pair_check, tested_pair_tightens}
use Rattle.rpki_der.proofs.SequenceReadings.{by_tag_reading, mapped_check}
use Rattle.rpki_block.specs.Beyond.{IsBeyond, is_beyond}
use Rattle.rpki_block.proofs.BlockStartTest.{beyond_is, is_beyond_of}
use Rattle.rpki_der.specs.Der.{IsBytes, IsTlv, IsValue, Refines, bit_content}
use Rattle.rpki_der.specs.Reading.{IsModal, Tightens, value_at}
use Rattle.rpki_der.proofs.ReadingModes.{bind_tightens, looked_tightens, tested_modal}
use Rattle.rpki_der.proofs.ValueReadings.{same_reading}
use Rattle.rpki_der.proofs.ReadingSteps.{IsCheck}
use Rattle.rpki_ip.specs.PrefixDer.{IsStrictContent, IsStrictPrefix, prefix_at, prefix_by, prefix_in, prefix_in_by}
use Rattle.rpki_ip.specs.RangeDer.{IsSpan, range_in, span_of}
use Rattle.rpki_ip.proofs.PrefixDerModes.{content_tightens, prefix_modal, strict_content_check}
use Rattle.rpki_ip.proofs.PrefixDerReadings.{span_again, span_says}
use Rattle.rpki_ip_block.specs.BlockModes.{IsNextIpBlock, IsStrictIpBlock, SaysStrictRange}
use Rattle.rpki_ip_block.specs.BlockReading.{ip_block_at, ip_block_by, ip_block_of, ip_block_of_by, is_set_range}
use Rattle.rpki_ip_block.specs.BlockReading.{next_ip_block_by, prefix_block_in, prefix_block_in_by, range_block_in}
use Rattle.rpki_ip_block.specs.BlockReading.{range_block_in_by, range_in_by}
use Rattle.rpki_ip_block.specs.Blocks.{ip_bounds}
use Rattle.rpki_ip_block.specs.declared.block.IpBlock.{IpBlock}
use Rattle.rpki_ip_block.specs.declared.block.IpBlock.TheVariants.{Prefix, Range}

-- the strict reading of the content of a range finds exactly the contents that strict cursors accept
strict_range_check : (limit : ℕ) → IsCheck IsBytes (SaysStrictRange limit) (range_in_by true limit)
strict_range_check limit =
    tested_pair_check (IsStrictPrefix limit) IsSpan (prefix_by true limit) span_of is_set_range
    (prefix_modal limit).tight span_says span_again

range_tightens : (strict : Bool) (limit : ℕ) (content : List ℕ)
    → Tightens strict (range_in_by strict limit content) (range_in limit content)
range_tightens strict limit content =
    tested_pair_tightens (IsStrictPrefix limit) IsSpan (prefix_at limit) span_of is_set_range strict
    (prefix_by strict limit) ((prefix_modal limit).tightens strict) content

-- the content denotes f of the value that it denotes by C
abbrev Named : {X Y : Type 0} → (List ℕ → X → Type 0) → (X → Y) → List ℕ → Y → Type 0
Named {X} C f content y = (x : X) × C content x × (y ≡ f x)

Says : ℕ → List ℕ → IpBlock → Type 0
Says limit = Refines IsTlv (SaysByTag 3 (Named (IsStrictContent limit) Prefix) (Named (SaysStrictRange limit) Range))

block_to : (limit : ℕ) (bytes : List ℕ) (block : IpBlock) → Says limit bytes block → IsStrictIpBlock limit bytes block
unfolding Says
block_to limit bytes block (v, is, inl (tag, (p, (b, (says, padded), prefix), same))) =
    let octets : IsValue bytes 3 (bit_content b) =
    subst (λ (t : List ℕ). IsValue bytes 3 t) says.spelled (subst (λ (k : ℕ). IsValue bytes k v.content) tag is) in
    subst (IsStrictIpBlock limit bytes) (sym same) (b, ((says.counted, octets), padded), prefix)
block_to limit bytes block (v, is, inr (tag, (r, says, same))) =
    subst (IsStrictIpBlock limit bytes) (sym same)
    (v.content, subst (λ (k : ℕ). IsValue bytes k v.content) tag is, says)

block_from : (limit : ℕ) (bytes : List ℕ) (block : IpBlock) → IsStrictIpBlock limit bytes block → Says limit bytes block
unfolding Says
block_from limit bytes (Prefix p) (b, ((counted, is), padded), prefix) = (
  record { tag = 3; content = bit_content b },
  is,
  inl
      (refl, (p, (b, (record { counted = counted; spelled = refl }, padded), prefix), refl)),
)
block_from limit bytes (Range r) (content, is, says) =
    (record { tag = 48; content = content }, is, inr (refl, (r, says, refl)))

-- the reading of a block in either mode
pub ip_block_modal : (limit : ℕ)
    → IsModal (IsStrictIpBlock limit) (ip_block_at limit) (λ strict. ip_block_by strict limit)
unfolding Says
ip_block_modal limit = record {
  tight =
      same_reading (Says limit) (IsStrictIpBlock limit) (ip_block_by true limit)
      (λ bytes block fits is. block_to limit bytes block is) (block_from limit)
      (by_tag_reading 3 (Named (IsStrictContent limit) Prefix) (Named (SaysStrictRange limit) Range)
      (prefix_block_in_by true limit) (range_block_in_by true limit) (λ e. omega (arith, e))
      (mapped_check IsBytes (IsStrictContent limit) (prefix_in_by true limit) Prefix
      (record {
        takes = λ content p fits e.
            (strict_content_check limit).takes content p tt e;
        again = (strict_content_check limit).again;
      }))
      (mapped_check IsBytes (SaysStrictRange limit) (range_in_by true limit) Range (strict_range_check limit)));
  tightens = λ strict bytes.
      looked_tightens strict value_at (ip_block_of_by strict limit) (ip_block_of limit)
      (λ v. by_tag_tightens strict 3 (prefix_block_in_by strict limit) (range_block_in_by strict limit)
      (prefix_block_in limit) (range_block_in limit)
      (λ content. bind_tightens strict (prefix_in_by strict limit content) (prefix_in limit content)
      (λ p. Ok (Prefix p)) (λ p. Ok (Prefix p)) (content_tightens strict limit content) (λ p. inl refl))
      (λ content. bind_tightens strict (range_in_by strict limit content) (range_in limit content) (λ r. Ok (Range r))
      (λ r. Ok (Range r)) (range_tightens strict limit content) (λ r. inl refl)) v)
      bytes;
}

-- the reading of a block after others in either mode
pub next_ip_block_modal : (limit : ℕ) (before : Option ℕ)
    → IsModal (IsNextIpBlock limit before) (ip_block_at limit) (λ strict. next_ip_block_by strict limit before)
next_ip_block_modal limit before =
    tested_modal (IsStrictIpBlock limit) (λ block. IsBeyond before (ip_bounds block).0) (ip_block_at limit)
    (λ strict. ip_block_by strict limit) (λ block. is_beyond before (ip_bounds block).0) (ip_block_modal limit)
    (λ x e. beyond_is before (ip_bounds x).0 e) (λ x e. is_beyond_of before (ip_bounds x).0 e)
