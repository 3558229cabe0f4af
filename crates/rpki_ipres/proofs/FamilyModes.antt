-- Families of resources in either mode: strictly, the octets are those that are written of them.
use Rattle.rpki_ipres.proofs.Common.{Err, List, None, Ok, Result, arith, inl, inr, ℕ, ◌≡◌, ◌≢◌, IsSaidInModes}
use Rattle.rpki_ipres.proofs.Common.{IsSequenceFrom, IsSequenceOf, stood_for, NotCanonicalOrMemory, bits_of, ByFamily}
use Rattle.rpki_ipres.proofs.Common.{IsFamilies, IsFamiliesInOrder, families_der, AddressFamily, Ipv4, Ipv6, IsChoiceOf}
use Rattle.rpki_ipres.proofs.Common.{Claim, ResourcesChoice, Missing, Refines, Cursor, DerError, IsIpBlockDer, IpBlock}
use Rattle.rpki_ipres.proofs.Common.{OrMemory, Memory, Refused, greatest_of_ip_block, ip_families_by, ip_resources_by}
use Rattle.rpki_ipres.proofs.Common.{ArePresentClaims, IsFamilyClaim, IsPresentFamilyClaim, if_present, IsIpFamilies}
use Rattle.rpki_ipres.proofs.Common.{SaysClaimOf, SaysClaims, ip_families_at, ip_resources_at, ip_resources_der}
use Rattle.rpki_der.proofs.FamiliesInModes.{families_said}
use Rattle.rpki_ipres.proofs.IpSetDerModes.{IsNextWritten, claim_in_modes}

-- what lenient and strict cursors take of a family
abbrev pub G : AddressFamily → List ℕ → ResourcesChoice (List IpBlock) → Type 0
G family = IsChoiceOf (IsSequenceOf (IsIpBlockDer (bits_of family)))

abbrev S : AddressFamily → List ℕ → ResourcesChoice (List IpBlock) → Type 0
S family = IsChoiceOf (IsSequenceFrom greatest_of_ip_block (IsNextWritten (bits_of family)) None)

pub families_in_modes : IsSaidInModes (IsFamilies G) (IsFamiliesInOrder S) SaysClaims ArePresentClaims
    (families_der ip_resources_der) ip_families_at ip_families_by
families_in_modes = families_said G S SaysClaimOf IsPresentFamilyClaim ip_resources_der
    (λ family. ip_resources_at (bits_of family)) (λ strict family. ip_resources_by strict (bits_of family))
    claim_in_modes

-- claims that aren't missing are there
pub are_present : (v4 v6 : Claim) → IsFamilyClaim Ipv4 v4 → IsFamilyClaim Ipv6 v6 → (v4 ≡ Missing → v6 ≢ Missing)
    → ArePresentClaims (if_present v4, if_present v6)
are_present v4 v6 first second some = grind arith

-- a refusal, by the name of the grammar
pub refused_families : (old : Cursor) (result : Result (ByFamily Claim) (OrMemory DerError))
    → NotCanonicalOrMemory (Refines (IsFamilies G) SaysClaims) old result → NotCanonicalOrMemory IsIpFamilies old result
refused_families old (Ok fs) refused = tt
refused_families old (Err (Memory e)) refused = tt
refused_families old (Err (Refused e)) refused = elim refused [
  | inl not_canonical ↦ inl not_canonical
  | inr none ↦ inr (λ fs rest found. none fs rest (found.0, stood_for G SaysClaimOf found.0 fs found.1, found.2))
]
