-- Prefixes inside one another (RFC 4632, 3.1).
use Rattle.std.specs.Prelude.{◌≡◌, ◌≤◌}
use Rattle.rpki_prefix.specs.Order.{last_bits}
use Rattle.rpki_prefix.specs.Values.{FamilyPrefix, address_number, is_v6}

-- both are of one family, and the lowest and the highest address of q are between those of p
pub record LiesRound (p q : FamilyPrefix) : Type 0 where
  pub family : is_v6 p.addr ≡ is_v6 q.addr
  pub from : address_number p.addr ≤ address_number q.addr
  pub upto : last_bits q ≤ last_bits p
