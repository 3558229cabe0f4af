-- A text writes one claim at most, or has one fault; what is printed of resources writes them.
use Rattle.rpki_as.proofs.Common.{refl, Bool, List, MatchResult, Result, [], ap, arith, codes, false, slice_index, ℕ}
use Rattle.rpki_as.proofs.Common.{◌++◌, ◌∷◌, ◌≡◌, block_apart, same_block_fault, HasAsBlockFault, IsAsBlockText}
use Rattle.rpki_as.proofs.Common.{as_block_text, AsBlock, FromStrError, empty_set, Claim, IsClaim, claim_of, Runs}
use Rattle.rpki_as.proofs.Common.{Blocks, Inherit, Missing, AnswersOrMemory-from_found, first_fault_apart}
use Rattle.rpki_as.proofs.Common.{same_first_fault, elements, IfRefused, AnswersOrMemory, OrMemory, IsAsSet}
use Rattle.rpki_as.proofs.Common.{HasAsListFault, IsAsListText, as_list_text, HasAsResourcesFault, IsAsResourcesText}
use Rattle.rpki_as.proofs.Common.{IsInherit, as_resources_text}
use Rattle.std.specs.Bool.{Decides}
use Rattle.rpki_as.proofs.AsListLemmas.{list_says, one_list}

-- what isn't told isn't so
pub not_true : (b : Bool) (P : Type 0) → Decides b P → b ≡ false → ¬ P
not_true b P decides e = grind arith

module _ (text : List ℕ) where
  -- a text writes one claim at most
  pub one_claim : (a b : Claim) → IsAsResourcesText text a → IsAsResourcesText text b → a ≡ b
  one_claim Missing Missing h k = refl
  one_claim Missing Inherit h k = absurd (h.0 k)
  one_claim Missing (Blocks y) h k = absurd (k.2 (one_list text y [] k.1 h.1))
  one_claim Inherit Missing h k = absurd (k.0 h)
  one_claim Inherit Inherit h k = refl
  one_claim Inherit (Blocks y) h k = absurd (k.0 h)
  one_claim (Blocks x) Missing h k = absurd (h.2 (one_list text x [] h.1 k.1))
  one_claim (Blocks x) Inherit h k = absurd (h.0 k)
  one_claim (Blocks x) (Blocks y) h k = ap (λ (runs : Runs). Blocks runs) (one_list text x y h.1 k.1)

  -- and has no fault then
  list_apart : (set : Runs) (e : FromStrError) → IsAsListText text set → HasAsListFault text e → ⊥
  list_apart set e h f =
      first_fault_apart IsAsBlockText HasAsBlockFault block_apart (elements text) h.blocks e h.are_written f

  claim_apart : (a : Claim) (e : FromStrError) → IsAsResourcesText text a → HasAsResourcesFault text e → ⊥
  claim_apart Missing e h f = list_apart [] e h.1 f.1
  claim_apart Inherit e h f = f.0 h
  claim_apart (Blocks x) e h f = list_apart x e h.1 f.1

  -- a reader that finds what the text has meets the whole contract
  pub resources_answers : (r : Result Claim (OrMemory FromStrError))
      → MatchResult r (IsAsResourcesText text) (IfRefused (HasAsResourcesFault text))
      → AnswersOrMemory (λ claim. claim) (IsAsResourcesText text) (HasAsResourcesFault text) r
  resources_answers r found =
      AnswersOrMemory-from_found (λ (claim : Claim). claim) (IsAsResourcesText text) (HasAsResourcesFault text)
      one_claim claim_apart (λ d e f g.
      same_first_fault IsAsBlockText HasAsBlockFault block_apart same_block_fault (elements text) d e f.1 g.1) r found

  -- the fault of a list is that of a text which isn't `inherit`
  pub list_fault : ¬ IsInherit text → (d : OrMemory FromStrError) → IfRefused (HasAsListFault text) d
      → IfRefused (HasAsResourcesFault text) d
  list_fault other d f = grind arith

  -- a list writes the claim that lists its set
  pub list_claim : ¬ IsInherit text → (set : Runs) → IsAsListText text set → IsAsResourcesText text (claim_of set)
  list_claim other set h = grind arith

-- ---- printed

-- what is printed of a block begins with an `A`
first_is : (b : AsBlock) (more : List ℕ) → slice_index (as_block_text b ++ more) 0 ≡ 65
first_is b more = grind arith

-- so what is printed of numbers isn't `inherit`
not_inherit : (set : Runs) (text : List ℕ) → text ≡ as_list_text set → IsInherit text → ⊥
not_inherit [] text printed = grind (arith, codes)
not_inherit (run ∷ runs) text printed = grind (arith, codes, first_is, slice_index)

-- what is printed of resources writes them
pub printed_resources : (text : List ℕ) (claim : Claim) → IsClaim IsAsSet claim → text ≡ as_resources_text claim
    → IsAsResourcesText text claim
printed_resources text Missing is printed =
    (not_inherit [] text printed, list_says text [] (empty_set 0 4294967295) printed)
printed_resources text Inherit is printed = printed
printed_resources text (Blocks set) is printed = (not_inherit set text printed, list_says text set is.0 printed, is.1)
