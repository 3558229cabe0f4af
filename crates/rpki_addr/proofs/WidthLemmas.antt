-- On the width of addresses.
use Rattle.rpki_addr.proofs.Common.{arith, ◌≤◌, IpAddr}
use Rattle.rpki_addr.specs.Widths.{width}

-- no address has more than 128 bits
pub width_small : (a : IpAddr) → width a ≤ 128
width_small a = grind (arith)
