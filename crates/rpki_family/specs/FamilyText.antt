-- Texts of blocks of a family.
use Rattle.std.specs.Prelude.{◌≡◌, ℕ, List, Some, Result, MatchResult}
use Rattle.rpki_text.specs.Reading.{Answers}
use Rattle.rpki_ip.specs.declared.error.FromStrError.{FromStrError}
use Rattle.rpki_der.specs.declared.family.AddressFamily.{AddressFamily}
use Rattle.rpki_ip_block.specs.Blocks.{ip_bounds}
use Rattle.rpki_ip_block.specs.BlockText.{IsIpBlockText, HasIpBlockFault}
use Rattle.rpki_ip_block.specs.PrintedBlocks.{IsBlockOf, ip_block_text}
use Rattle.rpki_ip_block.specs.declared.block.IpBlock.{IpBlock}

-- The result is the block of the family that the text denotes, or the fault of the text. The printed text of a block of
-- the family parses back to a block with its bounds.
pub record ReadsFamilyBlock (family : AddressFamily) (text : List ℕ) (r : Result IpBlock FromStrError) : Type 0 where
  pub exact : Answers (IsIpBlockText (Some family) text) (HasIpBlockFault (Some family) text) r
  pub reads_back : (block : IpBlock) → IsBlockOf family block → text ≡ ip_block_text family block
      → MatchResult r (λ read. ip_bounds read ≡ ip_bounds block) (λ _. ⊥)
