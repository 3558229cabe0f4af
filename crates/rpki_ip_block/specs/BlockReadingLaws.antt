-- The reading finds exactly the blocks of the grammar, with any octets after them. Readers of lists require these
-- lemmas.
use Rattle.std.proofs.Common.{◌≡◌, ℕ, ◌<◌, List, length, refl, sym, subst, arith, inl, inr}
use Rattle.rpki_der.specs.Der.{IsBytes, IsTlv, IsValue, Refines, Tlv, bit_content}
use Rattle.rpki_der.specs.Reading.{IsReading}
use Rattle.rpki_der.proofs.ValueLists.{value_has_octets}
use Rattle.rpki_der.proofs.ValueReadings.{same_reading}
use Rattle.rpki_der.proofs.ReadingSteps.{IsCheck}
use Rattle.rpki_der.proofs.SequenceReadings.{by_tag_reading, mapped_check, sequence_reading}
use Rattle.rpki_der.specs.SequenceReading.{IsSequenceOf, SaysByTag}
use Rattle.rpki_ip.specs.PrefixDer.{IsPrefixContent, prefix_in}
use Rattle.rpki_ip.specs.RangeDer.{SaysRange, range_in}
use Rattle.rpki_ip.proofs.PrefixDerReadings.{prefix_check, range_check}
use Rattle.rpki_ip_block.specs.BlockDer.{IsIpBlockDer}
use Rattle.rpki_ip_block.specs.BlockReading.{prefix_block_in, range_block_in, ip_block_at, ip_blocks_at}
use Rattle.rpki_ip_block.specs.declared.block.IpBlock.{IpBlock}
use Rattle.rpki_ip_block.specs.declared.block.IpBlock.TheVariants.{Prefix, Range}

-- ---- contents

-- a content denotes f of the value that it denotes by C
abbrev Named : {X Y : Type 0} → (List ℕ → X → Type 0) → (X → Y) → List ℕ → Y → Type 0
Named {X} C f content y = (x : X) × C content x × (y ≡ f x)

-- the reading of the content of a prefix
prefix_says : (limit : ℕ) → IsCheck IsBytes (Named (IsPrefixContent limit) Prefix) (prefix_block_in limit)
prefix_says limit =
    mapped_check IsBytes (IsPrefixContent limit) (prefix_in limit) Prefix
    (record {
      takes =
          λ content p fits e. (prefix_check limit).takes content p tt e;
      again = (prefix_check limit).again;
    })

-- the reading of the content of a range
range_says : (limit : ℕ) → IsCheck IsBytes (Named (SaysRange limit) Range) (range_block_in limit)
range_says limit = mapped_check IsBytes (SaysRange limit) (range_in limit) Range (range_check limit)

-- ---- blocks

-- the value of a block, by its tag
Says : ℕ → Tlv → IpBlock → Type 0
Says limit = SaysByTag 3 (Named (IsPrefixContent limit) Prefix) (Named (SaysRange limit) Range)

-- octets with such a value are a block of the grammar
block_to : (limit : ℕ) (bytes : List ℕ) (block : IpBlock) → Refines IsTlv (Says limit) bytes block
    → IsIpBlockDer limit bytes block
unfolding Says
block_to limit bytes block (v, is, inl (tag, (p, (b, says, prefix), same))) =
    let octets : IsValue bytes 3 (bit_content b) =
    subst (λ (t : List ℕ). IsValue bytes 3 t) says.spelled (subst (λ (k : ℕ). IsValue bytes k v.content) tag is) in
    subst (IsIpBlockDer limit bytes) (sym same) (b, (says.counted, octets), prefix)
block_to limit bytes block (v, is, inr (tag, (r, says, same))) =
    subst (IsIpBlockDer limit bytes) (sym same) (v.content, subst (λ (k : ℕ). IsValue bytes k v.content) tag is, says)

-- a block of the grammar has such a value
block_from : (limit : ℕ) (bytes : List ℕ) (block : IpBlock) → IsIpBlockDer limit bytes block
    → Refines IsTlv (Says limit) bytes block
unfolding Says
block_from limit bytes (Prefix p) (b, (counted, is), prefix) = (
  record { tag = 3; content = bit_content b },
  is,
  inl
      (refl, (p, (b, record { counted = counted; spelled = refl }, prefix), refl)),
)
block_from limit bytes (Range r) (content, is, says) =
    (record { tag = 48; content = content }, is, inr (refl, (r, says, refl)))

-- the reading finds exactly the blocks of the grammar: a prefix or a range
pub ip_block_reading : (limit : ℕ) → IsReading (IsIpBlockDer limit) (ip_block_at limit)
unfolding Says
ip_block_reading limit =
    same_reading (Refines IsTlv (Says limit)) (IsIpBlockDer limit) (ip_block_at limit)
    (λ bytes block fits is. block_to limit bytes block is) (block_from limit)
    (by_tag_reading 3 (Named (IsPrefixContent limit) Prefix) (Named (SaysRange limit) Range) (prefix_block_in limit)
    (range_block_in limit) (λ e. omega (arith, e)) (prefix_says limit) (range_says limit))

-- a block has at least one octet
pub ip_block_has_octets : (limit : ℕ) (front : List ℕ) (block : IpBlock) → IsIpBlockDer limit front block
    → 0 < length front
ip_block_has_octets limit front (Prefix p) is = value_has_octets front 3 (bit_content is.0) is.1.1
ip_block_has_octets limit front (Range r) is = value_has_octets front 48 is.0 is.1

-- the reading finds exactly the SEQUENCES of blocks
pub blocks_reading : (limit : ℕ) → IsReading (IsSequenceOf (IsIpBlockDer limit)) (ip_blocks_at limit)
blocks_reading limit =
    sequence_reading (λ (state : Unit {0}) (x : IpBlock). state) (λ state. IsIpBlockDer limit)
    (λ state. ip_block_at limit) (λ state. ip_block_reading limit) (λ state. ip_block_has_octets limit) tt
