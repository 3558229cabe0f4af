-- The printed texts of prefixes and ranges, as those of a family, as the Rust crate `rpki` 0.20.1 prints them.
use Rattle.std.specs.Prelude.{ℕ, ◌/◌, ◌^◌, ◌==◌, if◌then◌else◌, List, ◌∷◌, ◌++◌, decimal}
use Rattle.rpki_text.specs.Cuts.{slash, dash}
use Rattle.rpki_cover.specs.Prefixes.{PrefixValue}
use Rattle.rpki_addr.specs.PrintedAddress.{ip_text}
use Rattle.rpki_addr.specs.declared.addr.IpAddr.{IpAddr}
use Rattle.rpki_addr.specs.declared.addr.IpAddr.TheVariants.{V4, V6}
use Rattle.rpki_der.specs.Families.{bits_of}
use Rattle.rpki_ip.specs.Ranges.{RangeValue}
use Rattle.rpki_der.specs.declared.family.AddressFamily.{AddressFamily}
use Rattle.rpki_der.specs.declared.family.AddressFamily.TheVariants.{Ipv4, Ipv6}

-- the bits of an address of the family: in IPv4 the first 32
abbrev pub shown_bits : AddressFamily → ℕ → ℕ
shown_bits Ipv4 n = n / 2 ^ 96
shown_bits Ipv6 n = n

-- the address of the family with these bits
abbrev pub as_ip : AddressFamily → ℕ → IpAddr
as_ip Ipv4 bits = V4 bits
as_ip Ipv6 bits = V6 bits

-- the printed text of an address as an address of the family
abbrev pub addr_text : AddressFamily → ℕ → List ℕ
addr_text family n = ip_text (as_ip family (shown_bits family n))

-- the printed text of a prefix: its address and its length; the length is left out if it is the family's maximum
abbrev pub ip_prefix_text : AddressFamily → PrefixValue → List ℕ
ip_prefix_text family p =
    if p.len == bits_of family then addr_text family p.first else addr_text family p.first ++ slash ∷ decimal p.len

-- the printed text of a range: its least and its greatest address, or one of them if both are printed alike
abbrev pub ip_range_text : AddressFamily → RangeValue → List ℕ
ip_range_text family r =
    if shown_bits family r.min == shown_bits family r.max then addr_text family r.min
    else addr_text family r.min ++ dash ∷ addr_text family r.max
