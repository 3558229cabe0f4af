-- The width of addresses.
use Rattle.std.specs.Prelude.{ℕ}
use Rattle.rpki_addr.specs.declared.addr.IpAddr.{IpAddr}
use Rattle.rpki_addr.specs.declared.addr.IpAddr.TheVariants.{V4, V6}

-- the number of bits of an address (RFC 791, 2.3; RFC 4291, 2)
abbrev pub width : IpAddr → ℕ
width (V4 n) = 32
width (V6 n) = 128
