-- The number of a family.
use Rattle.std.specs.Prelude.{ℕ}
use Rattle.rpki_der.specs.declared.family.AddressFamily.{AddressFamily}
use Rattle.rpki_der.specs.declared.family.AddressFamily.TheVariants.{Ipv4, Ipv6}

-- The number of a family: the version of its protocol.
abbrev pub family_number : AddressFamily → ℕ
family_number Ipv4 = 4
family_number Ipv6 = 6
