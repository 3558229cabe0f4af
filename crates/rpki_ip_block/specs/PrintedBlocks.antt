-- The printed texts of blocks of addresses, as blocks of a family, as the Rust crate `rpki` 0.20.1 prints them.
use Rattle.std.specs.Prelude.{◌≡◌, ℕ, List, map, None, Result, MatchResult}
use Rattle.rpki_text.specs.Lists.{joined}
use Rattle.rpki_cover.specs.Prefixes.{IsPrefix}
use Rattle.rpki_text.specs.Reading.{Answers}
use Rattle.rpki_ip.specs.PrintedText.{ip_prefix_text, ip_range_text}
use Rattle.rpki_ip.specs.Ranges.{IsRange}
use Rattle.rpki_ip.specs.Whole.{HasWholeBounds}
use Rattle.rpki_ip.specs.declared.error.FromStrError.{FromStrError}
use Rattle.rpki_der.specs.declared.family.AddressFamily.{AddressFamily}
use Rattle.rpki_der.specs.declared.family.AddressFamily.TheVariants.{Ipv4, Ipv6}
use Rattle.rpki_ip_block.specs.BlockText.{IsIpBlockText, HasIpBlockFault}
use Rattle.rpki_ip_block.specs.Blocks.{ip_bounds}
use Rattle.rpki_ip_block.specs.declared.block.IpBlock.{IpBlock}
use Rattle.rpki_ip_block.specs.declared.block.IpBlock.TheVariants.{Prefix, Range}

-- the printed text of a block, in its own form
abbrev pub ip_block_text : AddressFamily → IpBlock → List ℕ
ip_block_text family (Prefix p) = ip_prefix_text family p
ip_block_text family (Range r) = ip_range_text family r

-- the printed text of a list of blocks: their texts, joined by a comma and a space
abbrev pub block_list_text : AddressFamily → List IpBlock → List ℕ
block_list_text family blocks = joined (map (ip_block_text family) blocks)

-- the block is a prefix of 128 bits, or a range of addresses of 128 bits
abbrev pub IsBlock : IpBlock → Type 0
IsBlock (Prefix p) = IsPrefix 128 p
IsBlock (Range r) = IsRange r

-- the block is a block of the family: any block in IPv6, and a block of whole addresses in IPv4
abbrev pub IsBlockOf : AddressFamily → IpBlock → Type 0
IsBlockOf Ipv4 b = IsBlock b × HasWholeBounds (ip_bounds b)
IsBlockOf Ipv6 b = IsBlock b

-- The text is parsed as the block of either family that it denotes, or its fault is returned. The printed text of a
-- block of a family parses back to a block with the same bounds.
pub record ReadsIpBlock (text : List ℕ) (r : Result IpBlock FromStrError) : Type 0 where
  pub exact : Answers (IsIpBlockText None text) (HasIpBlockFault None text) r
  pub reads_back : (family : AddressFamily) (block : IpBlock) → IsBlockOf family block
      → text ≡ ip_block_text family block → MatchResult r (λ read. ip_bounds read ≡ ip_bounds block) (λ _. ⊥)
