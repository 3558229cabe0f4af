-- What claims list.
use Rattle.rpki_resources.proofs.Common.{Ok, Result, [], arith, subst, sym, ◌≡◌, MatchResult, Holds, Runs, Covers-nil}
use Rattle.rpki_resources.proofs.Common.{IsMemory, OrMemory, ListsRuns}
use Rattle.rpki_chain.specs.Choices.{IsRefused, MatchChoice}
use Rattle.rpki_chain.specs.Claims.{Claim}
use Rattle.rpki_chain.specs.declared.choice.ResourcesChoice.TheVariants.{Missing, Inherit, Blocks}
use Rattle.rpki_ip.specs.Whole.{IsWhole}
use Rattle.rpki_ipres.specs.Resources.{IsWholeClaim}

-- a claim gives as a set what it lists, and is refused where it is inherited alone
module _ {E : Type 0} (claim : Claim) (r : Result Runs (OrMemory E))
    (h : MatchChoice claim (r ≡ Ok []) (IsRefused r) (λ listed. MatchResult r (λ (s : Runs). s ≡ listed) IsMemory))
  where
    pub lists : (set : Runs) → r ≡ Ok set → ListsRuns claim set
    lists set is = grind (arith)

    pub inherit : IsRefused r → claim ≡ Inherit
    inherit is = grind (arith)

-- a set that a claim of whole addresses lists consists of whole ones
pub lists_whole : (claim : Claim) (set : Runs) → ListsRuns claim set → IsWholeClaim claim → IsWhole (Holds set)
lists_whole Missing set none h =
    λ m n same held. absurd (Covers-nil (λ x. x) m (subst (λ (runs : Runs). Holds runs m) none held))
lists_whole Inherit set none h = absurd none
lists_whole (Blocks listed) set same h = subst (λ (runs : Runs). IsWhole (Holds runs)) (sym same) h
