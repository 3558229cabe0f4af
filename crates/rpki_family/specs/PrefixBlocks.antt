-- Blocks of a family that are prefixes.
use Rattle.std.specs.Prelude.{◌≡◌, ◌≢◌, Option, MatchOption}
use Rattle.rpki_ip.specs.AddrText.{first_of}
use Rattle.rpki_ip.specs.AddrText.{family_of}
use Rattle.rpki_der.specs.declared.family.AddressFamily.{AddressFamily}
use Rattle.rpki_ip_block.specs.declared.block.IpBlock.{IpBlock}
use Rattle.rpki_ip_block.specs.declared.block.IpBlock.TheVariants.{Prefix}
use Rattle.rpki_prefix.specs.Values.{FamilyPrefix}

-- the result is the block of the prefix's addresses if the prefix is of the family, and None if it isn't
abbrev pub IsPrefixBlock : AddressFamily → FamilyPrefix → Option IpBlock → Type 0
IsPrefixBlock family p r =
    MatchOption r (family_of p.addr ≢ family)
    (λ block. (family_of p.addr ≡ family) × (block ≡ Prefix (record { first = first_of p.addr; len = p.len })))
