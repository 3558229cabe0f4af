-- The sets and claims that are read as IPv4 consist of whole IPv4 addresses.
use Rattle.rpki_ipres.proofs.Common.{List, None, Option, Some, refl, subst, sym, ℕ, ◌≡◌, All, IfSome, IsThere}
use Rattle.rpki_ipres.proofs.Common.{each_there, bits_of, ByFamily, AddressFamily, Ipv4, Ipv6, Claim, Holds}
use Rattle.rpki_ipres.proofs.Common.{IsRunsOfBlocks, Runs, Blocks, Inherit, Missing, whole_set, HasWholeBounds, IsWhole}
use Rattle.rpki_ipres.proofs.Common.{whole_each, ip_bounds, IpBlock, IsWholeClaim, IsIpFamilies, IsIpResources}
use Rattle.rpki_ipres.proofs.Common.{IsIpBlockSequence}

-- the set of blocks with whole bounds is whole
pub whole_cover : (blocks : List IpBlock) (set : Runs) → All (λ b. HasWholeBounds (ip_bounds b)) blocks
    → IsRunsOfBlocks ip_bounds blocks set → IsWhole (Holds set)
whole_cover blocks set all is m n same held =
    let (k, b, small, here, within) = (is.members m).0 held in
    (is.members n).1 (
      k,
      b,
      small,
      here,
      whole_set (ip_bounds b)
          (subst (λ x. HasWholeBounds (ip_bounds x)) here (all k b small)) m n same within,
    )

-- and so is the set that a SEQUENCE of blocks of IPv4 stands for
pub whole_sequence : (family : AddressFamily) (bytes : List ℕ) (set : Runs)
    → IsIpBlockSequence (bits_of family) bytes set → family ≡ Ipv4 → IsWhole (Holds set)
whole_sequence Ipv4 bytes set (blocks, (content, is, each), covers) v4 =
    whole_cover blocks set (whole_each content blocks each) covers
whole_sequence Ipv6 bytes set says v4 = absurd cc

-- and so are the resources of IPv4 that octets stand for
pub whole_claim : (family : AddressFamily) (bytes : List ℕ) (claim : Claim)
    → IsIpResources (bits_of family) bytes claim → family ≡ Ipv4 → IsWholeClaim claim
whole_claim Ipv4 bytes claim (Missing, is, says) v4 = absurd is
whole_claim Ipv4 bytes claim (Inherit, is, says) v4 = subst IsWholeClaim (sym says) tt
whole_claim Ipv4 bytes claim (Blocks blocks, ((content, is, each), some), (set, covers, same)) v4 =
    subst IsWholeClaim (sym same) (whole_cover blocks set (whole_each content blocks each) covers)
whole_claim Ipv6 bytes claim says v4 = absurd cc

-- and so is what stands there for IPv4
some_whole : (o : Option Claim) → IfSome o (IsThere (λ family. IsIpResources (bits_of family)) Ipv4)
    → IfSome o IsWholeClaim
some_whole None there = tt
some_whole (Some claim) there = whole_claim Ipv4 there.0 claim there.1 refl

pub whole_families : (bytes : List ℕ) (fs : ByFamily Claim) → IsIpFamilies bytes fs → IfSome fs.0 IsWholeClaim
whole_families bytes fs says =
    some_whole fs.0 (each_there (λ family. IsIpResources (bits_of family)) Ipv4 bytes fs says)
