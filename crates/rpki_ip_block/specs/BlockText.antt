-- Texts of blocks of addresses, as the Rust crate `rpki` 0.20.1 parses them. The wanted family is one family, or either
-- with None.
use Rattle.std.specs.Prelude.{◌⊎◌, List, ℕ, Option}
use Rattle.rpki_text.specs.Cuts.{HasNo, Around, slash, dash}
use Rattle.rpki_ip.specs.BlockText.{IsIpPrefixText, IsRangeText, IsSingleText, HasAddressFault, HasPrefixFault}
use Rattle.rpki_ip.specs.BlockText.{HasRangeFault}
use Rattle.rpki_ip.specs.declared.error.FromStrError.{FromStrError}
use Rattle.rpki_der.specs.declared.family.AddressFamily.{AddressFamily}
use Rattle.rpki_ip_block.specs.declared.block.IpBlock.{IpBlock}
use Rattle.rpki_ip_block.specs.declared.block.IpBlock.TheVariants.{Prefix, Range}

-- The text denotes the block. A text with a slash is a prefix, separated by the first slash. Without a slash, a text
-- with a dash is a range, separated by the first dash. Any other text is one address.
abbrev pub IsIpBlockText : Option AddressFamily → List ℕ → IpBlock → Type 0
IsIpBlockText wanted text (Prefix p) = IsIpPrefixText wanted text p
IsIpBlockText wanted text (Range r) =
    HasNo slash text × (IsRangeText wanted text r ⊎ (HasNo dash text × IsSingleText wanted text r))

-- e is the first fault of a text that denotes no block
abbrev pub HasIpBlockFault : Option AddressFamily → List ℕ → FromStrError → Type 0
HasIpBlockFault wanted text e =
    Around slash text (λ left right. HasPrefixFault wanted left right e)
    ⊎ (HasNo slash text × (
    Around dash text (λ left right. HasRangeFault wanted left right e)
    ⊎ (HasNo dash text × HasAddressFault wanted text e)))
