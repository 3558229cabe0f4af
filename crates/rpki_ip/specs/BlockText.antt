-- Texts of prefixes and ranges of addresses, as the Rust crate `rpki` 0.20.1 parses them. The wanted family is one
-- family, or either with None.
use Rattle.std.specs.Prelude.{◌≡◌, ℕ, ◌-◌, ◌^◌, ◌≤◌, ◌<◌, ◌⊎◌, List, Option, None, Some}
use Rattle.rpki_addr.specs.AddressText.{IsIpText}
use Rattle.rpki_text.specs.Cuts.{HasNo, Around, slash, dash}
use Rattle.rpki_text.specs.Numbers.{IsNumberText, HasNumberFault}
use Rattle.rpki_cover.specs.Bits.{cleared}
use Rattle.rpki_addr.specs.Widths.{width}
use Rattle.rpki_cover.specs.Prefixes.{PrefixValue}
use Rattle.rpki_addr.specs.declared.addr.AddrParseError.{AddrParseError}
use Rattle.rpki_addr.specs.declared.addr.AddrParseError.TheVariants as Address
use Rattle.rpki_addr.specs.declared.addr.IpAddr.{IpAddr}
use Rattle.rpki_text.specs.declared.number.ParseIntError.{ParseIntError}
use Rattle.rpki_text.specs.declared.number.ParseIntError.TheVariants.{PosOverflow}
use Rattle.rpki_ip.specs.AddrText.{first_of, greatest_of}
use Rattle.rpki_ip.specs.AddrText.{family_of}
use Rattle.rpki_ip.specs.Ranges.{RangeValue}
use Rattle.rpki_ip.specs.declared.error.FromStrError.{FromStrError}
use Rattle.rpki_ip.specs.declared.error.FromStrError.TheVariants as Fault
use Rattle.rpki_der.specs.declared.family.AddressFamily.{AddressFamily}
use Rattle.rpki_der.specs.declared.family.AddressFamily.TheVariants.{Ipv4, Ipv6}

-- the address is of a wanted family
abbrev pub IsWanted : Option AddressFamily → IpAddr → Type 0
IsWanted None a = Unit {0}
IsWanted (Some family) a = family_of a ≡ family

-- the text denotes the address, which is of a wanted family
abbrev pub IsAddressText : Option AddressFamily → List ℕ → IpAddr → Type 0
IsAddressText wanted text a = IsWanted wanted a × IsIpText text a

-- the fault of a text that denotes no address of a wanted family
abbrev pub address_fault : Option AddressFamily → AddrParseError
address_fault None = Address.Ip
address_fault (Some Ipv4) = Address.Ipv4
address_fault (Some Ipv6) = Address.Ipv6

-- the text denotes no address of a wanted family, and e is the fault of such a text
abbrev pub HasAddressFault : Option AddressFamily → List ℕ → FromStrError → Type 0
HasAddressFault wanted text e = ((a : IpAddr) → ¬ IsAddressText wanted text a) × (e ≡ Fault.Addr (address_fault wanted))

-- the text denotes an address of a wanted family for which P holds
abbrev pub WithAddress : Option AddressFamily → List ℕ → (IpAddr → Type 0) → Type 0
WithAddress wanted text P = (a : IpAddr) × IsAddressText wanted text a × P a

-- the text denotes a length up to the number of the address's bits, and p is the prefix of this length at the address
pub record IsPrefixAt (a : IpAddr) (text : List ℕ) (p : PrefixValue) : Type 0 where
  pub length_text : IsNumberText (2 ^ 8 - 1) text p.len
  pub within : p.len ≤ width a
  pub first : p.first ≡ cleared 128 (first_of a) p.len

-- the text isn't a number of 8 bits for the reason f, or the number is above the number of the address's bits
abbrev pub HasLengthFault : IpAddr → List ℕ → ParseIntError → Type 0
HasLengthFault a text f =
    HasNumberFault (2 ^ 8 - 1) text f
    ⊎ ((n : ℕ) × IsNumberText (2 ^ 8 - 1) text n × (width a < n) × (f ≡ PosOverflow))

-- left denotes an address and right a length, and p is the prefix of both
abbrev pub IsPrefixBetween : Option AddressFamily → List ℕ → List ℕ → PrefixValue → Type 0
IsPrefixBetween wanted left right p = WithAddress wanted left (λ a. IsPrefixAt a right p)

-- left and right denote no prefix: the fault of the address comes first, then that of the length
abbrev pub HasPrefixFault : Option AddressFamily → List ℕ → List ℕ → FromStrError → Type 0
HasPrefixFault wanted left right e =
    HasAddressFault wanted left e
    ⊎ WithAddress wanted left (λ a. (f : ParseIntError) × HasLengthFault a right f × (e ≡ Fault.PrefixLen f))

-- r is the range from the least number of the address a to the greatest of the address b, of the same family
pub record IsRangeFrom (a b : IpAddr) (r : RangeValue) : Type 0 where
  pub one_family : family_of a ≡ family_of b
  pub min : r.min ≡ first_of a
  pub max : r.max ≡ greatest_of b
  pub ordered : r.min ≤ r.max

-- two addresses give no range: their families are compared first, then their order
abbrev pub HasPairFault : IpAddr → IpAddr → FromStrError → Type 0
HasPairFault a b e =
    ((¬ (family_of a ≡ family_of b)) × (e ≡ Fault.FamilyMismatch))
    ⊎ ((family_of a ≡ family_of b) × (greatest_of b < first_of a) × (e ≡ Fault.BadRange))

-- left and right denote addresses, and r is the range between them
abbrev pub IsIpRangeBetween : Option AddressFamily → List ℕ → List ℕ → RangeValue → Type 0
IsIpRangeBetween wanted left right r = WithAddress wanted left (λ a. WithAddress wanted right (λ b. IsRangeFrom a b r))

-- left and right denote no range: the fault of the first address comes first, then that of the second, then that of
-- both
abbrev pub HasRangeFault : Option AddressFamily → List ℕ → List ℕ → FromStrError → Type 0
HasRangeFault wanted left right e =
    HasAddressFault wanted left e
    ⊎ WithAddress wanted left (λ a. HasAddressFault wanted right e ⊎ WithAddress wanted right (λ b. HasPairFault a b e))

-- the text denotes one address, and r is the range of its numbers
abbrev pub IsSingleText : Option AddressFamily → List ℕ → RangeValue → Type 0
IsSingleText wanted text r = WithAddress wanted text (λ a. IsRangeFrom a a r)

-- The text denotes the prefix. Its first slash separates the address from the length.
abbrev pub IsIpPrefixText : Option AddressFamily → List ℕ → PrefixValue → Type 0
IsIpPrefixText wanted text p = Around slash text (λ left right. IsPrefixBetween wanted left right p)

-- The text denotes the range. Its first dash separates the two addresses.
abbrev pub IsRangeText : Option AddressFamily → List ℕ → RangeValue → Type 0
IsRangeText wanted text r = Around dash text (λ left right. IsIpRangeBetween wanted left right r)

-- the separator b is missing, or the parts before and after the first b have the fault
abbrev pub HasFaultAround : ℕ → List ℕ → (List ℕ → List ℕ → FromStrError → Type 0) → FromStrError → Type 0
HasFaultAround b text Fails e =
    (HasNo b text × (e ≡ Fault.MissingSeparator)) ⊎ Around b text (λ left right. Fails left right e)

-- e is the first fault of a text that denotes no prefix
abbrev pub HasIpPrefixTextFault : Option AddressFamily → List ℕ → FromStrError → Type 0
HasIpPrefixTextFault wanted text e = HasFaultAround slash text (HasPrefixFault wanted) e

-- e is the first fault of a text that denotes no range
abbrev pub HasRangeTextFault : Option AddressFamily → List ℕ → FromStrError → Type 0
HasRangeTextFault wanted text e = HasFaultAround dash text (HasRangeFault wanted) e
