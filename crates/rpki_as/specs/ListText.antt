-- Texts of sets of AS numbers, as the Rust crate `rpki` 0.20.1 reads and prints them.
use Rattle.std.specs.Prelude.{ℕ, List, map}
use Rattle.rpki_text.specs.Lists.{elements, joined, HaveValues, HasFirstFault}
use Rattle.rpki_chain.specs.Runs.{Runs, IsSetOfBlocks}
use Rattle.rpki_as_block.specs.Blocks.{as_bounds, new_as_block}
use Rattle.rpki_as_block.specs.BlockText.{IsAsBlockText, HasAsBlockFault, as_block_text}
use Rattle.rpki_as_block.specs.declared.error.FromStrError.{FromStrError}

-- each element of the text denotes a block, and the set is that of the numbers in these blocks
abbrev pub IsAsListText : List ℕ → Runs → Type 0
IsAsListText text = IsSetOfBlocks as_bounds (HaveValues IsAsBlockText (elements text))

-- the first element that denotes no block has this fault
abbrev pub HasAsListFault : List ℕ → FromStrError → Type 0
HasAsListFault text fault = HasFirstFault IsAsBlockText HasAsBlockFault (elements text) fault

-- the printed text of a set: the blocks of its runs, each in the form that `new` gives
abbrev pub as_list_text : Runs → List ℕ
as_list_text set = joined (map as_block_text (map new_as_block set))
