-- The blocks and sets of a family: any bounds in IPv6, and those of whole addresses in IPv4. Also covers of an IPv4 set
-- by prefixes of its own 32 bits.
use Rattle.std.specs.Prelude.{ℕ, ◌*◌, ◌^◌, List, ⊤}
use Rattle.rpki_cover.specs.Prefixes.{PrefixValue}
use Rattle.rpki_chain.specs.Runs.{Runs, Holds}
use Rattle.rpki_cover.specs.Covers.{IsV4CoverList}
use Rattle.rpki_ip.specs.Whole.{HasWholeBounds}
use Rattle.rpki_der.specs.declared.family.AddressFamily.{AddressFamily}
use Rattle.rpki_der.specs.declared.family.AddressFamily.TheVariants.{Ipv4, Ipv6}

-- the bounds are those of a block of the family: in IPv4 of a block of whole addresses, and in IPv6 any bounds
abbrev pub HasBoundsIn : AddressFamily → ℕ × ℕ → Type 0
HasBoundsIn Ipv4 b = HasWholeBounds b
HasBoundsIn Ipv6 b = ⊤

-- a is the number of an IPv4 address in a set of whole addresses
abbrev pub Ipv4Of : Runs → ℕ → Type 0
Ipv4Of set a = Holds set (a * 2 ^ 96)

-- In IPv4 the prefixes are those that cover a set by its own addresses. In IPv6 this is always true.
abbrev pub IsCoverListIn : AddressFamily → Runs → List PrefixValue → Type 0
IsCoverListIn Ipv4 set ps = IsV4CoverList (Ipv4Of set) ps
IsCoverListIn Ipv6 set ps = ⊤
