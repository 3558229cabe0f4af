-- The two families of addresses (RFC 3779, 2.2.3.3).
use Rattle.std.specs.Prelude.{ℕ}
use Rattle.rpki_der.specs.declared.family.AddressFamily.{AddressFamily}
use Rattle.rpki_der.specs.declared.family.AddressFamily.TheVariants.{Ipv4, Ipv6}

-- the number of bits of an address of the family (RFC 791, 2.3; RFC 4291, 2)
abbrev pub bits_of : AddressFamily → ℕ
bits_of Ipv4 = 32
bits_of Ipv6 = 128
