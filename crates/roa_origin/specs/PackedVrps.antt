-- The fields of a VRP as a table stores them, and of a route as a table looks it up.
use Rattle.std.specs.Prelude.{ℕ, Bool, true, false, Option}
use Rattle.rpki_addr.specs.declared.addr.IpAddr.{IpAddr}
use Rattle.rpki_addr.specs.declared.addr.IpAddr.TheVariants.{V4, V6}
use Rattle.rpki_prefix.specs.Values.{FamilyPrefix, address_number, is_v6}
use Rattle.roa_origin.specs.Vrps.{Vrp}

-- the address of IPv4 (false) or IPv6 (true) whose bits write the number
abbrev pub addr_of : Bool → ℕ → IpAddr
addr_of false n = V4 n
addr_of true n = V6 n

-- the route of a family, an address, a length and an AS number
abbrev pub route_of : Bool → ℕ → ℕ → ℕ → FamilyPrefix × ℕ
route_of v6 n len asn = (record { addr = addr_of v6 n; len = len }, asn)

-- the VRP of a family, an address, a length, a maximum length and an AS number
abbrev pub vrp_of : Bool → ℕ → ℕ → Option ℕ → ℕ → Vrp
vrp_of v6 n len max_len asn = (record { prefix = record { addr = addr_of v6 n; len = len }; max_len = max_len }, asn)

-- the number that the bits of a prefix's address write
abbrev pub address_bits : FamilyPrefix → ℕ
address_bits p = address_number p.addr

-- whether a prefix is of IPv6
abbrev pub is_of_v6 : FamilyPrefix → Bool
is_of_v6 p = is_v6 p.addr
