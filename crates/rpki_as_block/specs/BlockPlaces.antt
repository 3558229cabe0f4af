-- Texts of AS blocks at an index of a text.
use Rattle.std.specs.Prelude.{◌≡◌, ℕ, ◌+◌, ◌-◌, ◌<◌, ◌≤◌, ◌⊎◌, List, [], ◌∷◌, length, take, drop, slice_index}
use Rattle.std.specs.Int.{IsInRange}
use Rattle.std.specs.List.{AllByRecursion}
use Rattle.rpki_base.specs.AsnPlaces.{IsAsnAt}
use Rattle.rpki_as_block.specs.BlockText.{IsAsBlockText}
use Rattle.rpki_as_block.specs.declared.block.AsBlock.{AsBlock}
use Rattle.rpki_as_block.specs.declared.block.AsBlock.TheVariants.{Id, Range}

-- the bytes from start to end denote the block; all of them are `-` or above, so there is neither a comma nor white
-- space
pub record IsAsBlockBetween (start end : ℕ) (text : List ℕ) (b : AsBlock) : Type 0 where
  pub in_order : start < end
  pub within : end ≤ length text
  pub block : IsAsBlockText (take (end - start) (drop start text)) b
  pub shown : AllByRecursion (IsInRange 45 126) (take (end - start) (drop start text))

-- the byte is at this index
abbrev pub StandsAt : ℕ → ℕ → List ℕ → Type 0
StandsAt byte place text = (place < length text) × (slice_index text place ≡ byte)

-- A block in the usual form is at start: one AS number with no dash (45) after it, or two around a dash, the first at
-- most the second. end is the index after it.
abbrev pub IsAsBlockAt : ℕ → ℕ → List ℕ → AsBlock → Type 0
IsAsBlockAt start end text (Id n) = IsAsnAt start end text n × (¬ StandsAt 45 end text)
IsAsBlockAt start end text (Range r) =
    (middle : ℕ) × IsAsnAt start middle text r.min × StandsAt 45 middle text × IsAsnAt (middle + 1) end text r.max
    × (r.min ≤ r.max)

-- after is the index after a space (32) if a space is at start, and start otherwise
abbrev pub IsAfterSpace : ℕ → ℕ → List ℕ → Type 0
IsAfterSpace start after text =
    ((after ≡ start) × (¬ StandsAt 32 start text)) ⊎ ((after ≡ start + 1) × StandsAt 32 start text)

-- the text ends at the index, or after a space at this index
abbrev pub IsEndAt : ℕ → List ℕ → Type 0
IsEndAt end text = (end ≡ length text) ⊎ ((end + 1 ≡ length text) × StandsAt 32 end text)

-- From start to its end the text is a list in the usual form. Its blocks have the usual form, each with at most one
-- space before it. There is a comma (44) between two blocks, and at most one space after the last.
abbrev pub AreAsBlocksFrom : ℕ → List ℕ → List AsBlock → Type 0
AreAsBlocksFrom start text [] = ⊥
AreAsBlocksFrom start text (b ∷ more) =
    (first end : ℕ) × IsAfterSpace start first text × IsAsBlockAt first end text b
    × ((IsEndAt end text × (more ≡ [])) ⊎ (StandsAt 44 end text × AreAsBlocksFrom (end + 1) text more))
