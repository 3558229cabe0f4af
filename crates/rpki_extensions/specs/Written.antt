-- The canonical octets of both extensions. Each is absent if it would claim nothing (RFC 3779, 2.2.3 and 3.2.3; RFC
-- 6487, 4.8.10 and 4.8.11).
use Rattle.std.specs.Prelude.{ℕ, List, Option, Some, None, option_map}
use Rattle.rpki_chain.specs.Claims.{Claim, claim_of}
use Rattle.rpki_chain.specs.Runs.{Runs}
use Rattle.rpki_chain.specs.declared.choice.ResourcesChoice.TheVariants.{Missing, Inherit, Blocks}
use Rattle.rpki_as.specs.AsDer.{as_resources_octets}
use Rattle.rpki_chain.specs.Choices.{if_present}
use Rattle.rpki_ipres.specs.ResourcesDer.{ip_families_der}

-- the value of the AS identifiers extension that makes a claim, None for a missing claim
abbrev pub claimed_numbers : Claim → Option (List ℕ)
claimed_numbers claim = option_map as_resources_octets (if_present claim)

-- the value of the IP address blocks extension that makes the claims on IPv4 and IPv6, None if both are missing
abbrev pub claimed_addresses : Claim → Claim → Option (List ℕ)
claimed_addresses Missing Missing = None
claimed_addresses Missing Inherit = Some (ip_families_der Missing Inherit)
claimed_addresses Missing (Blocks set) = Some (ip_families_der Missing (Blocks set))
claimed_addresses Inherit v6 = Some (ip_families_der Inherit v6)
claimed_addresses (Blocks set) v6 = Some (ip_families_der (Blocks set) v6)

-- ---- extensions that list a set

-- the value of the AS identifiers extension that lists a set, None for the empty set
abbrev pub written_numbers : Runs → Option (List ℕ)
written_numbers set = claimed_numbers (claim_of set)

-- the value of the IP address blocks extension that lists a set of each family, None if both sets are empty
abbrev pub written_addresses : Runs → Runs → Option (List ℕ)
written_addresses v4 v6 = claimed_addresses (claim_of v4) (claim_of v6)
