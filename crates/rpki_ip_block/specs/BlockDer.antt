-- Blocks of addresses in DER (RFC 3779, 2.2.3.7 to 2.2.3.9).
use Rattle.std.specs.Prelude.{ℕ, ◌≤◌, List}
use Rattle.rpki_block.specs.Bounds.{IsNew}
use Rattle.rpki_cover.specs.Prefixes.{IsPrefix}
use Rattle.rpki_ip.specs.PrefixDer.{IsPrefixDer, prefix_der}
use Rattle.rpki_ip.specs.RangeDer.{IsRangeDer, IsRangeWithin, range_der}
use Rattle.rpki_ip_block.specs.Blocks.{ip_bounds, new_ip_block}
use Rattle.rpki_ip_block.specs.declared.block.IpBlock.{IpBlock}
use Rattle.rpki_ip_block.specs.declared.block.IpBlock.TheVariants.{Prefix, Range}

-- the octets are the BIT STRING of a prefix or the SEQUENCE of a range (2.2.3.7); limit is the maximum prefix length
abbrev pub IsIpBlockDer : ℕ → List ℕ → IpBlock → Type 0
IsIpBlockDer limit bytes (Prefix p) = IsPrefixDer limit bytes p
IsIpBlockDer limit bytes (Range r) = IsRangeDer limit bytes r

-- ---- encodings

-- the encoding of a block in its own form, as a prefix or as a range (2.2.3.7)
abbrev pub ip_block_der : IpBlock → List ℕ
ip_block_der (Prefix p) = prefix_der p
ip_block_der (Range r) = range_der r

-- ---- blocks within a limit

-- the bounds of the block need no more bits than the limit
abbrev pub IsBlockWithin : ℕ → IpBlock → Type 0
IsBlockWithin limit (Prefix p) = IsPrefix 128 p × (p.len ≤ limit)
IsBlockWithin limit (Range r) = IsRangeWithin limit r

-- the block is one that sets have: it is within the limit, and a Prefix if it can be one
abbrev pub IsSetIpBlock : ℕ → IpBlock → Type 0
IsSetIpBlock limit block = IsBlockWithin limit block × IsNew ip_bounds new_ip_block block
