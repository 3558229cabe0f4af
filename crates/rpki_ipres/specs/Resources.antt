-- Resources of addresses: missing, inherited, or the runs of a set that isn't empty.
use Rattle.std.specs.Prelude.{◌≡◌, ◌≢◌, Option, Some, None, IfSome, ⊤}
use Rattle.rpki_chain.specs.Claims.{Claim, IsClaim}
use Rattle.rpki_chain.specs.Runs.{Holds}
use Rattle.rpki_chain.specs.declared.choice.ResourcesChoice.TheVariants.{Missing, Inherit, Blocks}
use Rattle.rpki_ip.specs.Whole.{IsWhole}
use Rattle.rpki_der.specs.FamiliesDer.{ByFamily}
use Rattle.rpki_der.specs.declared.family.AddressFamily.{AddressFamily}
use Rattle.rpki_der.specs.declared.family.AddressFamily.TheVariants.{Ipv4, Ipv6}
use Rattle.rpki_ipres.specs.SetText.{IsFamilySet, IsIpSet}

-- the listed set, if there is one, is a set of addresses that isn't empty
abbrev pub IsIpClaim : Claim → Type 0
IsIpClaim = IsClaim IsIpSet

-- the listed set, if there is one, isn't empty, and is a set of the family: any set in IPv6, and a set of whole
-- addresses in IPv4
abbrev pub IsFamilyClaim : AddressFamily → Claim → Type 0
IsFamilyClaim family = IsClaim (IsFamilySet family)

-- the listed set, if there is one, consists of whole IPv4 addresses
abbrev pub IsWholeClaim : Claim → Type 0
IsWholeClaim Missing = ⊤
IsWholeClaim Inherit = ⊤
IsWholeClaim (Blocks set) = IsWhole (Holds set)

-- a claim of the family that has an encoding
abbrev pub IsPresentFamilyClaim : AddressFamily → Claim → Type 0
IsPresentFamilyClaim family claim = IsFamilyClaim family claim × (claim ≢ Missing)

-- claims that have an encoding, each of its family if it is present; at least one is present
abbrev pub ArePresentClaims : ByFamily Claim → Type 0
ArePresentClaims fs =
    IfSome fs.0 (IsPresentFamilyClaim Ipv4) × IfSome fs.1 (IsPresentFamilyClaim Ipv6) × (fs.0 ≡ None → fs.1 ≢ None)
