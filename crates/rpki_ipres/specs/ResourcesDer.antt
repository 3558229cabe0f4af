-- Resources of addresses in DER, of one family and by families (RFC 3779, 2.2.3.1 to 2.2.3.6).
use Rattle.std.specs.Prelude.{ℕ, List, Result}
use Rattle.rpki_der.specs.SequenceReading.{IsSequenceOf, values_of}
use Rattle.rpki_chain.specs.ChoiceDer.{IsResourcesOf, choice_at, choice_octets}
use Rattle.rpki_chain.specs.Choices.{ListsBy, if_present}
use Rattle.rpki_chain.specs.Claims.{Claim}
use Rattle.rpki_chain.specs.Runs.{IsRunsOfBlocks}
use Rattle.rpki_chain.specs.declared.choice.ResourcesChoice.{ResourcesChoice}
use Rattle.rpki_der.specs.FamiliesDer.{ByFamily, IsFamilies, SaysByFamily, families_der, option_der}
use Rattle.rpki_der.specs.FamiliesReading.{families_at}
use Rattle.rpki_der.specs.declared.error.DerError.{DerError}
use Rattle.rpki_der.specs.Families.{bits_of}
use Rattle.rpki_der.specs.declared.family.AddressFamily.{AddressFamily}
use Rattle.rpki_ip_block.specs.BlockDer.{IsIpBlockDer}
use Rattle.rpki_ip_block.specs.BlockReading.{ip_block_at}
use Rattle.rpki_ip_block.specs.Blocks.{ip_bounds}
use Rattle.rpki_ip_block.specs.declared.block.IpBlock.{IpBlock}
use Rattle.rpki_ipres.specs.SetDer.{ip_set_der}

-- the octets are a NULL for inherited resources, or a SEQUENCE of at least one block, which denotes the set of their
-- addresses (2.2.3.4 to 2.2.3.6); limit is the maximum length of a prefix
abbrev pub IsIpResources : ℕ → List ℕ → Claim → Type 0
IsIpResources limit = IsResourcesOf (IsSequenceOf (IsIpBlockDer limit)) (IsRunsOfBlocks ip_bounds)

-- the octets are a SEQUENCE of at least one family with its resources, in any order, each at most once (2.2.3.1 to
-- 2.2.3.3; RFC 6487, 4.8.10)
abbrev pub IsIpFamilies : List ℕ → ByFamily Claim → Type 0
IsIpFamilies = IsFamilies (λ family. IsIpResources (bits_of family))

-- ---- reading, from left to right

-- reads the resources of a family at the front of octets: a NULL, or a SEQUENCE of blocks
abbrev pub ip_resources_at : ℕ → List ℕ → Result (ResourcesChoice (List IpBlock) × List ℕ) DerError
ip_resources_at limit = choice_at (values_of (ip_block_at limit))

-- reads the SEQUENCE of families at the front of octets
abbrev pub ip_families_at : List ℕ → Result (ByFamily (ResourcesChoice (List IpBlock)) × List ℕ) DerError
ip_families_at = families_at (λ family. ip_resources_at (bits_of family))

-- the blocks that were read denote the claim
abbrev pub SaysClaimOf : ResourcesChoice (List IpBlock) → Claim → Type 0
SaysClaimOf = ListsBy (IsRunsOfBlocks ip_bounds)

-- the resources that were read for each family denote the family's claim
abbrev pub SaysClaims : ByFamily (ResourcesChoice (List IpBlock)) → ByFamily Claim → Type 0
SaysClaims = SaysByFamily SaysClaimOf

-- ---- encodings

-- the encoding of a claim: a NULL, or the runs of the set in one SEQUENCE; no octets for missing resources
abbrev pub ip_resources_der : Claim → List ℕ
ip_resources_der = choice_octets ip_set_der

-- the family and its resources in one SEQUENCE (2.2.3.2); no octets for missing resources
abbrev pub ip_member_der : AddressFamily → Claim → List ℕ
ip_member_der family claim = option_der ip_resources_der family (if_present claim)

-- the families in one SEQUENCE, IPv4 first
abbrev pub ip_families_der : Claim → Claim → List ℕ
ip_families_der v4 v6 = families_der ip_resources_der (if_present v4, if_present v6)
