-- What is written of resources, alone and by families, stands for them, and octets stand for one
-- claim at most.
use Rattle.rpki_ipres.proofs.Common.{IfSome, Blocks, Inherit, List, None, Option, Some, [], ap, arith, length, refl, ℕ}
use Rattle.rpki_ipres.proofs.Common.{◌++◌, ◌<◌, ◌^◌, ◌↔◌, ◌≡◌, ◌≢◌, append_cancel_left, one_content, one_families}
use Rattle.rpki_ipres.proofs.Common.{stands_for, written_said, IsSequenceOf, bits_of, ByFamily, option_der}
use Rattle.rpki_ipres.proofs.Common.{AddressFamily, Ipv4, Ipv6, lists_one, IsChoiceOf, Claim, claim_of, IsRunsOfBlocks}
use Rattle.rpki_ipres.proofs.Common.{Runs, ResourcesChoice, Missing, OneFront, header, IsIpBlockDer, ip_bounds, IpBlock}
use Rattle.rpki_ipres.proofs.Common.{IsFamilyClaim, IsIpClaim, if_present, IsIpFamilies, IsIpResources, SaysClaimOf}
use Rattle.rpki_ipres.proofs.Common.{ip_families_der, ip_member_der, ip_resources_at, ip_resources_der}
use Rattle.rpki_ipres.proofs.Common.{resources_reading, ip_family_der, one_front_said}
use Rattle.rpki_ipres.proofs.FamilyModes.{G, are_present, families_in_modes}
use Rattle.rpki_ipres.proofs.IpSetDerModes.{claim_in_modes}
use Rattle.rpki_ipres.proofs.IpSetWritten.{one_set, set_alike}

-- the blocks that were read are of one claim at most
pub one_claim : (choice : ResourcesChoice (List IpBlock)) (a b : Claim) → SaysClaimOf choice a → SaysClaimOf choice b
    → a ≡ b
one_claim = lists_one (IsRunsOfBlocks ip_bounds) one_set

-- octets begin with the resources of at most one claim
pub one_resources : (limit : ℕ) → OneFront (IsIpResources limit)
one_resources limit = one_front_said _ SaysClaimOf (ip_resources_at limit) (resources_reading limit) one_claim

-- and with at most one SEQUENCE of families, which have one claim each
pub one_of_families : OneFront IsIpFamilies
one_of_families =
    one_families (λ family. IsChoiceOf (IsSequenceOf (IsIpBlockDer (bits_of family)))) SaysClaimOf
    (λ family. ip_resources_at (bits_of family)) (λ family. resources_reading (bits_of family)) one_claim

-- what is written of resources of a family is the resources
pub resources_written : (family : AddressFamily) (claim : Claim) → IsFamilyClaim family claim → claim ≢ Missing
    → length (ip_resources_der claim) < 2 ^ 64 → IsIpResources (bits_of family) (ip_resources_der claim) claim
resources_written family claim is some = written_said (claim_in_modes family) claim (is, some)

-- what is written of families is the families
pub claims_written : (v4 v6 : Claim) → IsFamilyClaim Ipv4 v4 → IsFamilyClaim Ipv6 v6 → (v4 ≡ Missing → v6 ≢ Missing)
    → length (ip_families_der v4 v6) < 2 ^ 64 → IsIpFamilies (ip_families_der v4 v6) (if_present v4, if_present v6)
claims_written v4 v6 first second some short =
    let fs : ByFamily Claim = (if_present v4, if_present v6) in
    stands_for G SaysClaimOf (ip_families_der v4 v6) fs
    (written_said families_in_modes fs (are_present v4 v6 first second some) short)

-- ---- written alike

-- claims that are there alike are one
same_present : (a b : Claim) → if_present a ≡ if_present b → a ≡ b
same_present a b same = grind arith

-- resources that are written alike are one
resources_alike : (a b : Claim) → IsIpClaim a → IsIpClaim b → ip_resources_der a ≡ ip_resources_der b → a ≡ b
unfolding header
resources_alike Missing b is also same = grind arith
resources_alike Inherit b is also same = grind arith
resources_alike (Blocks x) Missing is also same = absurd cc
resources_alike (Blocks x) Inherit is also same = absurd cc
resources_alike (Blocks x) (Blocks y) is also same = ap (λ (t : Runs). Blocks t) (set_alike x y is.0 also.0 same)

pub resources_as_claims : (a b : Claim) → IsIpClaim a → IsIpClaim b
    → (ip_resources_der a ≡ ip_resources_der b) ↔ (a ≡ b)
resources_as_claims a b is also = (resources_alike a b is also, ap ip_resources_der)

-- and so are those that are written alike behind one family
members_alike : (family : AddressFamily) (a b : Option Claim) → IfSome a IsIpClaim → IfSome b IsIpClaim
    → option_der ip_resources_der family a ≡ option_der ip_resources_der family b → a ≡ b
unfolding header
members_alike family None None is also same = refl
members_alike family None (Some y) is also same = absurd cc
members_alike family (Some x) None is also same = absurd cc
members_alike family (Some x) (Some y) is also same = search (arith, append_cancel_left, one_content, resources_alike)

pub members_as_claims : (family : AddressFamily) (a b : Claim) → IsIpClaim a → IsIpClaim b
    → (ip_member_der family a ≡ ip_member_der family b) ↔ (a ≡ b)
members_as_claims family a b is also =
    let alike = members_alike family (if_present a) (if_present b) (grind arith) (grind arith) in
    (λ same. same_present a b (alike same), ap (ip_member_der family))

-- a set behind its family is written as the resources that list it
pub set_as_member : (family : AddressFamily) (set : Runs)
    → ip_family_der family set ≡ ip_member_der family (claim_of set)
set_as_member family set = grind arith

-- families that are written alike, in fewer octets than a length can tell, have the same resources
pub families_as_claims : (v4 v6 w4 w6 : Claim) → IsFamilyClaim Ipv4 v4 → IsFamilyClaim Ipv6 v6
    → (v4 ≡ Missing → v6 ≢ Missing) → IsFamilyClaim Ipv4 w4 → IsFamilyClaim Ipv6 w6 → (w4 ≡ Missing → w6 ≢ Missing)
    → length (ip_families_der v4 v6) < 2 ^ 64
    → (ip_families_der v4 v6 ≡ ip_families_der w4 w6) ↔ ((v4 ≡ w4) × (v6 ≡ w6))
families_as_claims v4 v6 w4 w6 first second some third fourth more short = (
  λ same. (
      let is = claims_written v4 v6 first second some short in
      let also = claims_written w4 w6 third fourth more (rw same at short) in
      let one = one_of_families _ _ _ _ [] [] is also (ap (λ (t : List ℕ). t ++ []) same) in
      (same_present v4 w4 (ap (λ p. p.0) one.1), same_present v6 w6 (ap (λ p. p.1) one.1))
      ),
  λ same. λ i. ip_families_der (same.0 i) (same.1 i),
)
