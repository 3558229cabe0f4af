-- What is written of AS resources, and what is taken of them in either mode.
use Rattle.rpki_as.proofs.Common.{List, None, arith, length, ◌<◌, ◌^◌, ◌≡◌, ◌≢◌, IsNextBlock, as_bounds, AsBlock}
use Rattle.rpki_as.proofs.Common.{IsSaidInModes, one_said, written_said, Encloses, IsSequenceFrom, IsChoiceOf, Claim}
use Rattle.rpki_as.proofs.Common.{IsClaim, IsRunsOfBlocks, ResourcesChoice, Missing, OneFront, IsAsChoice}
use Rattle.rpki_as.proofs.Common.{IsAsResources, IsPresentAsClaim, as_resources_octets, as_choice_at, as_choice_by}
use Rattle.rpki_as.proofs.Common.{greatest_of_as_block, IsAsSet, enclosed_said, choice_said}
use Rattle.rpki_chain.specs.Choices.{ListsBy}
use Rattle.rpki_as.proofs.AsSetDerLemmas.{blocks, length-value, set_octets_few}

-- the claim of the blocks that stand in such lists as were read is what was read
pub claim_of_listed : {Y : Type 0} (items : Y → List AsBlock) (read : ResourcesChoice (List AsBlock))
    (listed : ResourcesChoice Y) (claim : Claim) → ListsBy (λ xs l. items l ≡ xs) read listed
    → ListsBy (λ l set. IsRunsOfBlocks as_bounds (items l) set) listed claim
    → ListsBy (IsRunsOfBlocks as_bounds) read claim
claim_of_listed items read listed claim e of = grind (arith)

-- ---- in either mode

-- a choice of blocks in two values that enclose it
pub resources_in_modes : IsSaidInModes IsAsChoice
    (Encloses 48 (Encloses 160 (IsChoiceOf (IsSequenceFrom greatest_of_as_block IsNextBlock None))))
    (ListsBy (IsRunsOfBlocks as_bounds)) IsPresentAsClaim as_resources_octets as_choice_at as_choice_by
resources_in_modes = enclosed_said (enclosed_said (choice_said blocks) 160 (omega arith)) 48 (omega arith)

pub resources_short : (claim : Claim) → IsClaim IsAsSet claim → length (as_resources_octets claim) < 2 ^ 64
resources_short claim is = grind (arith, length-value, set_octets_few)

-- what is written of a claim that isn't missing stands for it
pub resources_written : (claim : Claim) → IsClaim IsAsSet claim → claim ≢ Missing
    → IsAsResources (as_resources_octets claim) claim
resources_written claim is some = written_said resources_in_modes claim (is, some) (resources_short claim is)

-- octets begin with at most one such value, which stands for one claim
pub one_resources : OneFront IsAsResources
one_resources = one_said resources_in_modes
