-- Decoding of sequences of blocks of AS numbers and of AS resources from left to right, with the first fault.
use Rattle.std.specs.Prelude.{ℕ, Bool, List, Option, Some, None, Result}
use Rattle.rpki_der.specs.declared.error.DerError.{DerError}
use Rattle.rpki_der.specs.SequenceReading.{enclosed_at, sequence_from, sequence_of, values_from, values_of}
use Rattle.rpki_chain.specs.declared.choice.ResourcesChoice.{ResourcesChoice}
use Rattle.rpki_chain.specs.ChoiceDer.{choice_at}
use Rattle.rpki_as_block.specs.AsDerReading.{as_block_at, next_block_by}
use Rattle.rpki_as_block.specs.Blocks.{as_bounds}
use Rattle.rpki_as_block.specs.declared.block.AsBlock.{AsBlock}

-- the blocks of the SEQUENCE at the front of octets
abbrev pub as_blocks_at : List ℕ → Result (List AsBlock × List ℕ) DerError
as_blocks_at = sequence_of as_block_at

-- the resources at the front of octets, with the list of their blocks
abbrev pub as_choice_at : List ℕ → Result (ResourcesChoice (List AsBlock) × List ℕ) DerError
as_choice_at = enclosed_at 48 (enclosed_at 160 (choice_at (values_of as_block_at)))

-- ---- by the mode: in strict mode each block begins more than one above the greatest number of the block before it

-- the state after a block: its greatest number
abbrev pub greatest_of_as_block : Option ℕ → AsBlock → Option ℕ
greatest_of_as_block before block = Some (as_bounds block).1

-- the blocks of the SEQUENCE at the front of octets, by the mode
abbrev pub as_blocks_by : Bool → List ℕ → Result (List AsBlock × List ℕ) DerError
as_blocks_by strict = sequence_from greatest_of_as_block (next_block_by strict) None

-- the resources at the front of octets, with the list of their blocks, by the mode
abbrev pub as_choice_by : Bool → List ℕ → Result (ResourcesChoice (List AsBlock) × List ℕ) DerError
as_choice_by strict =
    enclosed_at 48 (enclosed_at 160 (choice_at (values_from greatest_of_as_block (next_block_by strict) None)))
