-- What is of a family: by cases, IPv4 where addresses are whole, and IPv6 where there is nothing to show.
use Rattle.rpki_family.proofs.Common.{List, map, ◌≡◌, All, arith, family_of, Holds, IsRunsOfBlocks, Runs, ip_bounds}
use Rattle.rpki_family.proofs.Common.{new_ip_block, prefix_bounds, IpBlock, IsFamilySet, IsIpSet, HasBoundsIn}
use Rattle.rpki_family.proofs.Common.{IsCoverListIn, IsShortestCover}
use Rattle.rpki_der.specs.declared.family.AddressFamily.{AddressFamily}
use Rattle.rpki_der.specs.declared.family.AddressFamily.TheVariants.{Ipv4, Ipv6}
use Rattle.rpki_chain.specs.Claims.{Claim}
use Rattle.rpki_chain.specs.Paths.{IsUncovered}
use Rattle.rpki_family.proofs.FamilyCoverLemmas.{v4_covered}
use Rattle.rpki_prefix.specs.Values.{FamilyPrefix, IsFamilyPrefix}
use Rattle.rpki_ip.specs.AddrText.{first_of}
use Rattle.rpki_cover.specs.Prefixes.{PrefixValue}
use Rattle.rpki_ip_block.proofs.WholeBlockReadings.{whole_family_prefix}
use Rattle.rpki_ipres.proofs.SetTextLemmas.{blocks_of_family}
use Rattle.rpki_ipres.proofs.WholeSetReadings.{whole_cover}
use Rattle.rpki_ipres.proofs.WholeClaims.{whole_uncovered}
use Rattle.rpki_ipres.specs.Families.{IsClaimIn, IsWholeIn}

-- ---- sets

-- a set of addresses whose runs are those of a family is one of the family
pub is_family_set : (family : AddressFamily) (set : Runs) → IsIpSet set → IsWholeIn family set → IsFamilySet family set
is_family_set family set is whole = grind (arith)

-- the set of blocks of a family
pub cover_in : (family : AddressFamily) (blocks : List IpBlock) (set : Runs)
    → All (λ b. HasBoundsIn family (ip_bounds b)) blocks → IsRunsOfBlocks ip_bounds blocks set → IsWholeIn family set
cover_in family blocks set whole is = grind (arith, whole_cover blocks set)

-- the blocks of a set of a family
pub blocks_in : (family : AddressFamily) (xs : List IpBlock) (set : Runs) → xs ≡ map new_ip_block set
    → IsFamilySet family set → All (λ b. HasBoundsIn family (ip_bounds b)) xs
blocks_in Ipv4 xs set made is = rw made (λ k d small. (blocks_of_family Ipv4 set is k d small).1)
blocks_in Ipv6 xs set made is = λ k d small. tt

-- a set's shortest cover
pub covered_in : (family : AddressFamily) (set : Runs) (ps : List PrefixValue) → IsIpSet set → IsWholeIn family set
    → IsShortestCover 128 (Holds set) ps → IsCoverListIn family set ps
covered_in family set ps is whole shortest = grind (arith, v4_covered set ps)

-- what an issuer's claim doesn't have of a set of the family
pub uncovered_in : (family : AddressFamily) (set excess : Runs) (issuer : Claim)
    → IsWholeIn family set → IsClaimIn family issuer → IsUncovered (Holds set) issuer excess → IsWholeIn family excess
uncovered_in family set excess issuer own whole is = grind (arith, whole_uncovered set excess issuer)

-- ---- prefixes

pub prefix_in : (family : AddressFamily) (p : FamilyPrefix) → IsFamilyPrefix p → family_of p.addr ≡ family
    → HasBoundsIn family (prefix_bounds (record { first = first_of p.addr; len = p.len }))
prefix_in family p is v4 = grind (arith, whole_family_prefix p)
