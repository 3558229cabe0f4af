-- Lists of AS blocks, read element by element from the front of what is left.
use Rattle.rpki_as_block.proofs.Common.{List, Ok, Option, Some, [], ap, arith, drop, get_or, inl, inr, length}
use Rattle.rpki_as_block.proofs.Common.{length-drop, refl, subst, sym, take, ℕ, ◌++◌, ◌+◌, ◌-◌, ◌<◌, ◌∙◌, ◌∷◌, ◌≡◌, ◌≤◌}
use Rattle.rpki_as_block.proofs.Common.{◌⊎◌, drop-length, append-nil, append_assoc, drop_more, length-take}
use Rattle.rpki_as_block.proofs.Common.{take-append-drop, AreAsBlocksFrom, IsAfterSpace, IsAsBlockAt, IsAsBlockBetween}
use Rattle.rpki_as_block.proofs.Common.{IsEndAt, StandsAt, ReadsAsBlock, AsBlock}
use Rattle.rpki_text.specs.Lists.{elements, HaveValues}
use Rattle.rpki_text.proofs.PrintedListLemmas.{IsElement, IsPartOf, elements_first, elements_last}
use Rattle.rpki_as_block.proofs.AsBlockTextLemmas.{reads_block}
use Rattle.rpki_as_block.proofs.AsBlockIndexLemmas.{drop_later}

-- the texts have the blocks
abbrev pub Have : List (List ℕ) → List AsBlock → Type 0
Have = HaveValues (λ t b. ReadsAsBlock t (Ok b))

-- Blocks that what is left has complete those of the text. Where the whole is of the usual form, what is left is.
pub record IsSoFar (start : ℕ) (text : List ℕ) (blocks : List AsBlock) : Type 0 where
  pub within : start ≤ length text
  pub completed : (more : List AsBlock) → Have (elements (drop start text)) more → Have (elements text) (blocks ++ more)
  pub usual : (all : List AsBlock) → AreAsBlocksFrom 0 text all
      → (rest : List AsBlock) × AreAsBlocksFrom start text rest

-- it is the block of the usual form that stands there, and ends there
abbrev pub IsAlone : ℕ → List ℕ → AsBlock → ℕ → Type 0
IsAlone first text b end = (other : AsBlock) (place : ℕ) → IsAsBlockAt first place text other
    → ◌≡◌ {A = Option (AsBlock × ℕ)} (Some (b, end)) (Some (other, place))

-- what stands behind a block in a list of the usual form
abbrev pub GoesOn : ℕ → List ℕ → List AsBlock → Type 0
GoesOn end text more = (IsEndAt end text × (more ≡ [])) ⊎ (StandsAt 44 end text × AreAsBlocksFrom (end + 1) text more)

-- a list of the usual form begins with a block of it
pub first_block : (start first : ℕ) (text : List ℕ) (rest : List AsBlock) → IsAfterSpace start first text
    → AreAsBlocksFrom start text rest
    → (b : AsBlock) × (end : ℕ) × (more : List AsBlock) × IsAsBlockAt first end text b × GoesOn end text more
first_block start first text [] after h = absurd h
first_block start first text (b ∷ more) after (place, end, there, block, on) = grind arith

-- it goes on no further where neither the text's end nor a comma stands behind that block
pub goes_no_further : (start first end : ℕ) (text : List ℕ) (b : AsBlock) (rest : List AsBlock)
    → IsAfterSpace start first text → IsAlone first text b end → ¬ IsEndAt end text → ¬ (get_or text end 0 ≡ 44)
    → ¬ AreAsBlocksFrom start text rest
goes_no_further start first end text b rest after alone not_last not_comma h =
    let (other, place, more, there, on) = first_block start first text rest after h in
    grind arith

-- a block's text, which is an element
module _ (start first end : ℕ) (text : List ℕ) (b : AsBlock) (after : IsAfterSpace start first text)
    (h : IsAsBlockBetween first end text b) where
  is_element : IsElement (take (end - first) (drop first text))
  is_element =
      record {
        shown = h.shown;
        some = omega
            (arith, h.in_order, h.within, length-take (end - first) (drop first text), length-drop first text);
      }

  -- it stands at the front of what is left
  behind : drop first text ≡ take (end - first) (drop first text) ++ drop end text
  behind = sym (take-append-drop (end - first) (drop first text))
      ∙ ap (λ t. take (end - first) (drop first text) ++ t) (drop_later first end text (omega (arith, h.in_order)))

  -- with the space before it
  part : (p : List ℕ) × IsPartOf p (take (end - first) (drop first text)) × (drop start text ≡ p ++ drop end text)
  part = elim after [
    | inl same ↦ (take (end - first) (drop first text), inl refl, ap (λ k. drop k text) (sym same.0) ∙ behind)
    | inr k ↦ (
      32 ∷ take (end - first) (drop first text),
      inr refl,
      drop_more text start 0 k.1.0
          ∙ (ap (λ c. c ∷ drop (start + 1) text) k.1.1 ∙ ap (λ t. 32 ∷ t) (ap (λ j. drop j text) (sym k.0) ∙ behind)),
    )
  ]

  -- its value
  value : ReadsAsBlock (take (end - first) (drop first text)) (Ok b)
  value = reads_block _ (Ok b) h.block

  -- a list of the usual form goes on behind it
  left_behind : ¬ IsEndAt end text → IsAlone first text b end
      → (other : AsBlock) × (place : ℕ) × (more : List AsBlock) × IsAsBlockAt first place text other
      × GoesOn place text more → (rest : List AsBlock) × AreAsBlocksFrom (end + 1) text rest
  left_behind more alone h = grind arith

  -- one that a comma follows leaves what is behind the comma, where each block of the usual form there is it
  pub one_more : IsAlone first text b end → (blocks : List AsBlock) → IsSoFar start text blocks → ¬ IsEndAt end text
      → get_or text end 0 ≡ 44 → IsSoFar (end + 1) text (blocks ++ b ∷ [])
  one_more alone blocks before not_end comma_is =
      let more : end < length text = omega (arith, (λ (e : end ≡ length text). not_end (inl e)), h.within) in
      let shape : drop start text ≡ part.0 ++ 44 ∷ drop (end + 1) text =
      part.2 ∙ ap (λ t. part.0 ++ t) (drop_more text end 0 more ∙ ap (λ c. c ∷ drop (end + 1) text) comma_is) in
      let these : elements (drop start text) ≡ take (end - first) (drop first text) ∷ elements (drop (end + 1) text) =
      ap elements shape ∙ elements_first part.0 _ (drop (end + 1) text) part.1 is_element in
      record {
        within = omega (arith, more);
        completed =
            λ rest k.
            subst (Have (elements text)) (sym (append_assoc blocks (b ∷ []) rest))
            (before.completed (b ∷ rest) (subst (λ t. Have t (b ∷ rest)) (sym these) (value, k)));
        usual =
            λ all h.
            let (rest, k) = before.usual all h in left_behind not_end alone (first_block start first text rest after k);
      }

  -- and one that ends the text, but for a space, is the last
  pub all_read : (blocks : List AsBlock) → IsSoFar start text blocks → IsEndAt end text
      → Have (elements text) (blocks ++ b ∷ [])
  all_read blocks before last =
      let behind : (drop start text ≡ part.0) ⊎ (drop start text ≡ part.0 ++ 32 ∷ []) = elim last [
        | inl none ↦ inl
            (part.2 ∙ (ap (λ t. part.0 ++ t) (ap (λ k. drop k text) none ∙ drop-length text) ∙ append-nil part.0))
        | inr space ↦ inr (part.2
            ∙ ap (λ t. part.0 ++ t) (drop_more text end 0 space.1.0
            ∙ (ap (λ c. c ∷ drop (end + 1) text) space.1.1
            ∙ ap (λ t. 32 ∷ t) (ap (λ k. drop k text) space.0 ∙ drop-length text))))
      ] in
      let these : elements (drop start text) ≡ take (end - first) (drop first text) ∷ [] =
      elements_last (drop start text) _ (part.0, part.1, behind) is_element in
      before.completed (b ∷ []) (subst (λ t. Have t (b ∷ [])) (sym these) (value, tt))
