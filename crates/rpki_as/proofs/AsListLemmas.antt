-- A text writes one set at most, or has one first fault; what is printed of a set writes it.
use Rattle.rpki_as.proofs.Common.{ap, ◌↔◌, same_numbers, Holds, List, MatchResult, Result, [], arith, lit≤, map, refl}
use Rattle.rpki_as.proofs.Common.{subst, ℕ, ◌<◌, ◌^◌, ◌∷◌, ◌≡◌, ◌≤◌, All-head, All-tail, All, AllByRecursion}
use Rattle.rpki_as.proofs.Common.{IsAsBlockText-block_text, IsAsBlockText-one, block_apart, same_block_fault}
use Rattle.rpki_as.proofs.Common.{HasAsBlockFault, IsAsBlockText, as_block_text, as_bounds, new_as_block, AsBlock}
use Rattle.rpki_as.proofs.Common.{FromStrError, IsRunsOf-unique, IsRunsOfBlocks-bounds, Runs, Covers}
use Rattle.rpki_as.proofs.Common.{AnswersOrMemory-from_found, HaveValues-one, first_fault_apart, same_first_fault}
use Rattle.rpki_as.proofs.Common.{HaveValues, elements, IfRefused, AnswersOrMemory, OrMemory, IsAsSet, HasAsListFault}
use Rattle.rpki_as.proofs.Common.{IsAsListText, as_list_text, IsElement, elements-joined}
use Rattle.rpki_base.proofs.AsnLemmas.{asn_text_bytes}
use Rattle.rpki_as_block.proofs.AsBlockIndexLemmas.{shown, shown-append}

-- a text writes one set at most
pub one_list : (text : List ℕ) (a b : Runs) → IsAsListText text a → IsAsListText text b → a ≡ b
one_list text a b h k =
    let same = HaveValues-one IsAsBlockText IsAsBlockText-one (elements text) h.blocks k.blocks in
    IsRunsOf-unique (Covers as_bounds h.blocks) a b h.covered
    (rw (← same h.are_written k.are_written) at k.covered)

-- a reader that finds what the text has meets the whole contract
pub list_answers : {V : Type 0} (view : V → Runs) (text : List ℕ) (r : Result V (OrMemory FromStrError))
    → MatchResult r (λ v. IsAsListText text (view v)) (IfRefused (HasAsListFault text))
    → AnswersOrMemory view (IsAsListText text) (HasAsListFault text) r
list_answers view text r found =
    AnswersOrMemory-from_found view (IsAsListText text) (HasAsListFault text) (one_list text)
    (λ set e h. first_fault_apart IsAsBlockText HasAsBlockFault block_apart (elements text) h.blocks e h.are_written)
    (same_first_fault IsAsBlockText HasAsBlockFault block_apart same_block_fault (elements text)) r found

-- what is printed of a block can stand in a list
block_element : (b : AsBlock) → (as_bounds b).0 ≤ (as_bounds b).1 → (as_bounds b).1 < 2 ^ 32
    → IsElement (as_block_text b)
block_element b ordered small = grind (arith, asn_text_bytes, lit≤, shown 90, shown-append)

-- the blocks of the runs are written by what is printed of them, which can stand in a list
record AreBlocksOf (set : Runs) : Type 0 where
  bounds : map as_bounds (map new_as_block set) ≡ set
  written : HaveValues IsAsBlockText (map as_block_text (map new_as_block set)) (map new_as_block set)
  shown : AllByRecursion IsElement (map as_block_text (map new_as_block set))

blocks_of : (set : Runs) → All (λ b. b.0 ≤ b.1) set → All (λ b. b.1 ≤ 4294967295) set → AreBlocksOf set
blocks_of [] ordered below = record { bounds = refl; written = tt; shown = tt }
blocks_of (b ∷ set) ordered below =
    let rest = blocks_of set (All-tail (λ (x : ℕ × ℕ). x.0 ≤ x.1) b set ordered)
    (All-tail (λ (x : ℕ × ℕ). x.1 ≤ 4294967295) b set below) in
    grind (arith, All-head, IsAsBlockText-block_text, block_element)

-- what is printed of a set writes it
pub list_says : (text : List ℕ) (set : Runs) → IsAsSet set → text ≡ as_list_text set
    → IsAsListText text set
list_says text set is printed =
    let of = blocks_of set is.are_runs.ordered is.below in
    grind (arith, IsRunsOfBlocks-bounds, elements-joined)

-- what is made of sets of numbers is alike exactly where they have the same numbers, if it tells the set
pub alike_as_numbers : (made : Runs → List ℕ) (a b : Runs) → IsAsSet a → IsAsSet b → (made a ≡ made b → a ≡ b)
    → (made a ≡ made b) ↔ ((n : ℕ) → Holds a n ↔ Holds b n)
alike_as_numbers made a b is also one = (
  λ alike n. subst (λ (set : Runs). Holds a n ↔ Holds set n) (one alike) (λ held. held, λ held. held),
  λ same. ap made (same_numbers a b is.are_runs also.are_runs same),
)
