-- Lists of blocks, read element by element from the front of what is left.
use Rattle.rpki_ip_block.proofs.Common.{List, [], ap, append-nil, append_assoc, arith, inl, inr, length, length-append}
use Rattle.rpki_ip_block.proofs.Common.{refl, subst, sym, ℕ, ◌++◌, ◌<◌, ◌∙◌, ◌∷◌, ◌≡◌, AddressFamily, IsElement}
use Rattle.rpki_ip_block.proofs.Common.{HaveValues, elements, IsAfterOptionalSpace, IsBlockAtFront, HasBlocks}
use Rattle.rpki_ip_block.proofs.Common.{IsElementText, IpBlock}
use Rattle.std.proofs.Common.{◌⊎◌}
use Rattle.rpki_text.proofs.PrintedListLemmas.{IsPartOf, elements_first, elements_last}
use Rattle.rpki_ip_block.specs.BlockFronts.{IsSpaceOrNothing}

-- blocks that what is left has complete those of the text
abbrev pub IsSoFar : AddressFamily → List ℕ → List ℕ → List IpBlock → Type 0
IsSoFar family text left blocks =
    (more : List IpBlock) → HasBlocks family left more → HasBlocks family text (blocks ++ more)

-- the block's text, which is an element
module _ (family : AddressFamily) (left start : List ℕ) (b : IpBlock) (rest : List ℕ)
    (before : IsAfterOptionalSpace left start) (h : IsBlockAtFront family start b rest) where
  is_element : IsElement h.front
  is_element = record { shown = h.shown; some = h.some }

  -- it stands at the front of what is left, with the space before it
  part : (p : List ℕ) × IsPartOf p h.front × (left ≡ p ++ rest)
  part = elim before [
    | inl same ↦ (h.front, inl refl, sym same ∙ h.split)
    | inr spaced ↦ (32 ∷ h.front, inr refl, spaced ∙ ap (λ t. 32 ∷ t) h.split)
  ]

  -- one that a comma follows leaves what is behind the comma
  pub one_more : (text : List ℕ) (blocks : List IpBlock) (more : List ℕ) → IsSoFar family text left blocks
      → rest ≡ 44 ∷ more → IsSoFar family text more (blocks ++ b ∷ [])
  one_more text blocks more so_far comma others has =
      let shape : left ≡ part.0 ++ 44 ∷ more = part.2 ∙ ap (λ t. part.0 ++ t) comma in
      let these : elements left ≡ h.front ∷ elements more =
      ap elements shape ∙ elements_first part.0 h.front more part.1 is_element in
      subst (HasBlocks family text) (sym (append_assoc blocks (b ∷ []) others))
      (so_far (b ∷ others)
      (subst (λ t. HaveValues (IsElementText family) t (b ∷ others)) (sym these) (h.block, has)))

  -- which is less
  pub less_left : (more : List ℕ) → rest ≡ 44 ∷ more → length more < length left
  less_left more comma =
      omega (arith, ap length (part.2 ∙ ap (λ t. part.0 ++ t) comma), length-append part.0 (44 ∷ more))

  -- and one that ends the text, but for a space, is the last
  pub all_read : (text : List ℕ) (blocks : List IpBlock) → IsSoFar family text left blocks → IsSpaceOrNothing rest
      → HasBlocks family text (blocks ++ b ∷ [])
  all_read text blocks so_far end =
      let behind : (left ≡ part.0) ⊎ (left ≡ part.0 ++ 32 ∷ []) = elim end [
        | inl none ↦ inl (part.2 ∙ (ap (λ t. part.0 ++ t) none ∙ append-nil part.0))
        | inr space ↦ inr (part.2 ∙ ap (λ t. part.0 ++ t) space)
      ] in
      let these : elements left ≡ h.front ∷ [] = elements_last left h.front (part.0, part.1, behind) is_element in
      so_far (b ∷ []) (subst (λ t. HaveValues (IsElementText family) t (b ∷ [])) (sym these) (h.block, tt))
