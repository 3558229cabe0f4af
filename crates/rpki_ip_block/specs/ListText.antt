-- Texts of lists of blocks of addresses, as the Rust crate `rpki` 0.20.1 parses them.
use Rattle.std.specs.Prelude.{◌≡◌, ℕ, ◌⊎◌, List, Some, Contains}
use Rattle.rpki_text.specs.Lists.{elements, HaveValues, HasFirstFault}
use Rattle.rpki_ip.specs.declared.error.FromStrError.{FromStrError}
use Rattle.rpki_ip.specs.declared.error.FromStrError.TheVariants.{FamilyMismatch}
use Rattle.rpki_der.specs.declared.family.AddressFamily.{AddressFamily}
use Rattle.rpki_der.specs.declared.family.AddressFamily.TheVariants.{Ipv4, Ipv6}
use Rattle.rpki_ip_block.specs.BlockText.{IsIpBlockText, HasIpBlockFault}
use Rattle.rpki_ip_block.specs.declared.block.IpBlock.{IpBlock}

-- the byte of a dot
abbrev pub dot : ℕ
dot = 46

-- the byte of a colon
abbrev pub colon : ℕ
colon = 58

-- the element is rejected as an element of the other family: in a list of IPv4 for a colon, in a list of IPv6 for a dot
-- and no colon
abbrev pub IsForeign : AddressFamily → List ℕ → Type 0
IsForeign Ipv4 text = Contains text colon
IsForeign Ipv6 text = Contains text dot × ¬ Contains text colon

-- the text is an element of a list of the family, and denotes the block
abbrev pub IsElementText : AddressFamily → List ℕ → IpBlock → Type 0
IsElementText family text block = (¬ IsForeign family text) × IsIpBlockText (Some family) text block

-- e is the fault of an element of a list of the family
abbrev pub HasElementFault : AddressFamily → List ℕ → FromStrError → Type 0
HasElementFault family text e =
    (IsForeign family text × (e ≡ FamilyMismatch))
    ⊎ ((¬ IsForeign family text) × HasIpBlockFault (Some family) text e)

-- the text is a list of the family, and denotes these blocks in its order
abbrev pub HasBlocks : AddressFamily → List ℕ → List IpBlock → Type 0
HasBlocks family text blocks = HaveValues (IsElementText family) (elements text) blocks

-- e is the fault of the first invalid element of a list of the family
abbrev pub HasBlocksFault : AddressFamily → List ℕ → FromStrError → Type 0
HasBlocksFault family text e = HasFirstFault (IsElementText family) (HasElementFault family) (elements text) e

-- the family of a list without a given family: IPv6 if the list has a colon anywhere, else IPv4
abbrev pub IsFamilyOf : List ℕ → AddressFamily → Type 0
IsFamilyOf text family = (Contains text colon × (family ≡ Ipv6)) ⊎ ((¬ Contains text colon) × (family ≡ Ipv4))

-- in a list without a given family, an element that denotes no block of the family has the fault FamilyMismatch
abbrev pub HasMismatch : AddressFamily → List ℕ → FromStrError → Type 0
HasMismatch family text e = ((block : IpBlock) → ¬ IsIpBlockText (Some family) text block) × (e ≡ FamilyMismatch)

-- the text is a list without a given family, and denotes these blocks in its order
abbrev pub HasIpBlocks : List ℕ → List IpBlock → Type 0
HasIpBlocks text blocks =
    (family : AddressFamily) × IsFamilyOf text family × HaveValues (IsIpBlockText (Some family)) (elements text) blocks

-- e is the fault of a list without a given family
abbrev pub HasIpBlocksFault : List ℕ → FromStrError → Type 0
HasIpBlocksFault text e = (family : AddressFamily) × IsFamilyOf text family
    × HasFirstFault (IsIpBlockText (Some family)) (HasMismatch family) (elements text) e
