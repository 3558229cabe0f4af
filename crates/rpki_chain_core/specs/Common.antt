-- The common part of two blocks.
use Rattle.std.specs.Prelude.{◌≡◌, ℕ, ◌≤◌, ◌⊎◌, List, [], ◌∷◌, ◌++◌}
use Rattle.rpki_chain_core.specs.Sets.{IsNew}

-- the common part of b and c: from the beginning of the one that begins later to the end of the one that ends earlier
pub record IsCommon (b c common : ℕ × ℕ) : Type 0 where
  pub begins : (b.0 ≤ common.0) × (c.0 ≤ common.0) × ((common.0 ≡ b.0) ⊎ (common.0 ≡ c.0))
  pub ordered : common.0 ≤ common.1
  pub ends : (common.1 ≤ b.1) × (common.1 ≤ c.1) × ((common.1 ≡ b.1) ⊎ (common.1 ≡ c.1))

-- the common part is appended to the blocks as one block in new form
abbrev pub IsCommonPushed : {B : Type 0} → (B → ℕ × ℕ) → (ℕ × ℕ → B) → ℕ × ℕ → ℕ × ℕ → List B → List B → Type 0
IsCommonPushed {B} bounds form b c before after =
    (block : B) × IsCommon b c (bounds block) × IsNew bounds form block × (after ≡ before ++ block ∷ [])
