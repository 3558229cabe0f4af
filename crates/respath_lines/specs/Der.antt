-- The answer to `der`: the octets of the resources in a text, or the fault of the text.
use Rattle.std.specs.Prelude.{◌≡◌, ◌≢◌, ℕ, List, [], codes}
use Rattle.rpki_chain.specs.Claims.{Claim, claim_of}
use Rattle.rpki_chain.specs.Runs.{Runs}
use Rattle.rpki_chain.specs.declared.choice.ResourcesChoice.TheVariants.{Missing, Inherit, Blocks}
use Rattle.rpki_as.specs.AsDer.{as_resources_octets}
use Rattle.rpki_as_block.specs.Faults as AsFaults
use Rattle.rpki_as.specs.ResourcesText.{IsAsResourcesText, HasAsResourcesFault}
use Rattle.rpki_ip.specs.Faults as IpFaults
use Rattle.rpki_ip.specs.declared.error.FromStrError.{FromStrError}
use Rattle.rpki_der.specs.declared.family.AddressFamily.{AddressFamily}
use Rattle.rpki_der.specs.declared.family.AddressFamily.TheVariants.{Ipv4, Ipv6}
use Rattle.rpki_ip_block.specs.ListText.{HasBlocks, HasBlocksFault}
use Rattle.rpki_ipres.specs.ResourcesDer.{ip_families_der}
use Rattle.rpki_ipres.specs.SetText.{IsSetOf}
use Rattle.respath_lines.specs.Hexadecimal.{lower_hexadecimal}
use Rattle.respath_lines.specs.Kinds.{IsByKind}
use Rattle.respath_lines.specs.Shown.{ShowsValueOrFault}

-- the octets of a claim in hexadecimal, or `missing` for missing resources, which have no encoding
abbrev pub octets_text : (Claim → List ℕ) → Claim → List ℕ
octets_text octets Missing = codes "missing"
octets_text octets Inherit = lower_hexadecimal (octets Inherit)
octets_text octets (Blocks set) = lower_hexadecimal (octets (Blocks set))

-- the text is the answer to `der` for a list of AS resources
abbrev pub IsDerAs : List ℕ → List ℕ → Type 0
IsDerAs list text =
    ShowsValueOrFault (IsAsResourcesText list) (octets_text as_resources_octets) (HasAsResourcesFault list)
    AsFaults.as_from_str_error_text text

-- ---- resources of a family

-- the claim that lists the set of a list of blocks of the family
abbrev pub IsListed : AddressFamily → List ℕ → Claim → Type 0
IsListed family list claim = (set : Runs) × IsSetOf (HasBlocks family list) set × (claim ≡ claim_of set)

-- the text denotes the claim: `inherit` is inherited resources, and any other text is a list of blocks of the family
abbrev pub IsIpResourcesText : AddressFamily → List ℕ → Claim → Type 0
IsIpResourcesText family list Missing = (list ≢ codes "inherit") × IsSetOf (HasBlocks family list) []
IsIpResourcesText family list Inherit = list ≡ codes "inherit"
IsIpResourcesText family list (Blocks set) = (list ≢ codes "inherit") × IsSetOf (HasBlocks family list) set × (set ≢ [])

-- the fault of a text that denotes no resources of the family
abbrev pub HasIpResourcesFault : AddressFamily → List ℕ → FromStrError → Type 0
HasIpResourcesFault family list fault = (list ≢ codes "inherit") × HasBlocksFault family list fault

-- the octets of a list of families in which only this family has resources
abbrev pub one_family_der : AddressFamily → Claim → List ℕ
one_family_der Ipv4 claim = ip_families_der claim Missing
one_family_der Ipv6 claim = ip_families_der Missing claim

-- the text is the answer to `der` for the resources of a family
abbrev pub IsDerIp : AddressFamily → List ℕ → List ℕ → Type 0
IsDerIp family list text =
    ShowsValueOrFault (IsIpResourcesText family list) (octets_text (one_family_der family))
    (HasIpResourcesFault family list) IpFaults.ip_from_str_error_text text

-- the text is the answer to `der` for resources of this kind
abbrev pub IsDerAnswer : List ℕ → List ℕ → List ℕ → Type 0
IsDerAnswer kind list = IsByKind (IsDerAs list) (λ family. IsDerIp family list) kind
