-- Sets and claims of a family: all of them in IPv6, and in IPv4 those of whole addresses.
use Rattle.std.specs.Prelude.{⊤}
use Rattle.rpki_der.specs.declared.family.AddressFamily.{AddressFamily}
use Rattle.rpki_der.specs.declared.family.AddressFamily.TheVariants.{Ipv4, Ipv6}
use Rattle.rpki_chain.specs.Claims.{Claim}
use Rattle.rpki_chain.specs.Runs.{Runs, Holds}
use Rattle.rpki_ip.specs.Whole.{IsWhole}
use Rattle.rpki_ipres.specs.Resources.{IsWholeClaim}

-- the runs are those of a set of the family: in IPv4 the set consists of whole addresses, and in IPv6 it is any set
abbrev pub IsWholeIn : AddressFamily → Runs → Type 0
IsWholeIn Ipv4 set = IsWhole (Holds set)
IsWholeIn Ipv6 set = ⊤

-- the listed set, if there is one, is a set of the family
abbrev pub IsClaimIn : AddressFamily → Claim → Type 0
IsClaimIn Ipv4 claim = IsWholeClaim claim
IsClaimIn Ipv6 claim = ⊤
