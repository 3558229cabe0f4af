-- The rest of a block, from which the next removed block, the cut, is taken.
use Rattle.std.specs.Prelude.{◌≡◌, ℕ, ◌+◌, ◌<◌, ◌≤◌, ◌⊎◌, List, [], ◌∷◌, ◌++◌, length, slice_index_or}
use Rattle.rpki_chain_core.specs.Sets.{IsNew}

-- b is the rest of the block at an index: the block from one of its numbers on
pub record IsRest {B : Type 0} (bounds : B → ℕ × ℕ) (blocks : List B) (at : ℕ) (b : ℕ × ℕ) : Type 0 where
  pub start : ℕ
  pub within : at < length blocks
  pub block : (d : B) → bounds (slice_index_or blocks at d) ≡ (start, b.1)
  pub begins : start ≤ b.0
  pub ordered : b.0 ≤ b.1

-- the part of b before m: from where b begins to where b ends, or to the number before m if that is less
pub record IsBelow (b : ℕ × ℕ) (m : ℕ) (part : ℕ × ℕ) : Type 0 where
  pub begins : part.0 ≡ b.0
  pub ordered : part.0 ≤ part.1
  pub ends : (part.1 ≤ b.1) × (part.1 < m) × ((part.1 ≡ b.1) ⊎ (part.1 + 1 ≡ m))

-- the part of b before m is appended to the blocks as one block in new form; nothing is appended if b begins no earlier
abbrev pub IsBelowPushed : {B : Type 0} → (B → ℕ × ℕ) → (ℕ × ℕ → B) → ℕ × ℕ → ℕ → List B → List B → Type 0
IsBelowPushed {B} bounds form b m before after =
    ((m ≤ b.0) × (after ≡ before))
    ⊎ ((block : B) × IsBelow b m (bounds block) × IsNew bounds form block × (after ≡ before ++ block ∷ []))
