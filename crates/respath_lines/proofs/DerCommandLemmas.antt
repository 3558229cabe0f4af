-- The resources of a family that a text writes.
use Rattle.respath_lines.proofs.Common.{arith, List, MatchResult, Result, codes, ℕ, ◌≢◌, AddressFamily, Claim}
use Rattle.respath_lines.proofs.Common.{FromStrError, HasBlocksFault, IfRefused, OrMemory, HasIpResourcesFault}
use Rattle.respath_lines.proofs.Common.{IsIpResourcesText}
use Rattle.respath_lines.specs.Der.{IsListed}

module _ (family : AddressFamily) (list : List ℕ) (other : list ≢ codes "inherit") where
  listed_claim : (claim : Claim) → IsListed family list claim → IsIpResourcesText family list claim
  listed_claim claim is = grind (arith)

  -- a text that isn't `inherit` writes what it writes as a list
  pub listed_resources : (found : Result Claim (OrMemory FromStrError))
      → MatchResult found (IsListed family list) (IfRefused (HasBlocksFault family list))
      → MatchResult found (IsIpResourcesText family list) (IfRefused (HasIpResourcesFault family list))
  listed_resources found is = grind (arith, listed_claim)
