-- The order of addresses of either family.
use Rattle.std.specs.Ordering.{nat_cmp}
use Rattle.std.specs.declared.cmp.Ordering.{Ordering}
use Rattle.std.specs.declared.cmp.Ordering.TheVariants.{Less, Greater}
use Rattle.rpki_addr.specs.declared.addr.IpAddr.{IpAddr}
use Rattle.rpki_addr.specs.declared.addr.IpAddr.TheVariants.{V4, V6}

-- every IPv4 address is before every IPv6 address, and within a family the numbers decide
abbrev pub ip_cmp : IpAddr → IpAddr → Ordering
ip_cmp (V4 m) (V4 n) = nat_cmp m n
ip_cmp (V4 m) (V6 n) = Less
ip_cmp (V6 m) (V4 n) = Greater
ip_cmp (V6 m) (V6 n) = nat_cmp m n
