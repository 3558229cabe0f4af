-- Texts of blocks of AS numbers, as the Rust crate `rpki` 0.20.1 reads and prints them.
use Rattle.std.specs.Prelude.{◌≡◌, ℕ, ◌≤◌, ◌<◌, ◌^◌, List, ◌∷◌, ◌++◌, Result, Ok}
use Rattle.rpki_base.specs.AsnText.{IsAsnText, asn_text}
use Rattle.rpki_text.specs.Cuts.{HasNo, Around, dash}
use Rattle.rpki_text.specs.Reading.{Answers}
use Rattle.rpki_block.specs.Ranges.{RangeValue, range_bounds}
use Rattle.rpki_as_block.specs.Blocks.{as_bounds}
use Rattle.rpki_as_block.specs.declared.block.AsBlock.{AsBlock}
use Rattle.rpki_as_block.specs.declared.block.AsBlock.TheVariants.{Id, Range}
use Rattle.rpki_as_block.specs.declared.error.FromStrError.{FromStrError}
use Rattle.rpki_as_block.specs.declared.error.FromStrError.TheVariants.{BadAsn, BadRange, BadBlocks}

-- both texts are AS numbers, the first at most the second
pub record IsAsRangeBetween (left right : List ℕ) (b : ℕ × ℕ) : Type 0 where
  pub min_text : IsAsnText left b.0
  pub max_text : IsAsnText right b.1
  pub in_order : b.0 ≤ b.1

-- the texts are not two such numbers
abbrev pub NoRange : List ℕ → List ℕ → Type 0
NoRange left right = (b : ℕ × ℕ) → ¬ IsAsRangeBetween left right b

-- the text denotes the block: an AS number without a dash, or else a range around its first dash
abbrev pub IsAsBlockText : List ℕ → AsBlock → Type 0
IsAsBlockText text (Id n) = HasNo dash text × IsAsnText text n
IsAsBlockText text (Range r) = Around dash text (λ left right. IsAsRangeBetween left right (range_bounds r))

-- the fault of a text that denotes no block
abbrev pub HasAsBlockFault : List ℕ → FromStrError → Type 0
HasAsBlockFault text BadAsn = HasNo dash text × ((n : ℕ) → ¬ IsAsnText text n)
HasAsBlockFault text BadRange = Around dash text NoRange
HasAsBlockFault text BadBlocks = ⊥

-- the printed text of a range
abbrev pub as_range_text : RangeValue → List ℕ
as_range_text r = asn_text r.min ++ dash ∷ asn_text r.max

-- the printed text of a block
abbrev pub as_block_text : AsBlock → List ℕ
as_block_text (Id n) = asn_text n
as_block_text (Range r) = as_range_text r

-- The text is read as the block that it denotes, or as the fault that it has. The printed text of a block is read as
-- that block.
pub record ReadsAsBlock (text : List ℕ) (r : Result AsBlock FromStrError) : Type 0 where
  pub exact : Answers (IsAsBlockText text) (HasAsBlockFault text) r
  pub reads_back : (b : AsBlock) → (as_bounds b).0 ≤ (as_bounds b).1 → (as_bounds b).1 < 2 ^ 32 → text ≡ as_block_text b
      → r ≡ Ok b
