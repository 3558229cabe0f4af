-- AS resources are refused for a list of no blocks exactly where a SEQUENCE of nothing stands in the values that
-- enclose it, whose ends are looked at behind it.
use Rattle.rpki_as.proofs.Common.{Err, List, Result, arith, ℕ, ◌↔◌, ◌≡◌, as_block_at, AsBlock, enclosed_at, values_of}
use Rattle.rpki_as.proofs.Common.{choice_at, ResourcesChoice, tagged_at, DerError, as_blocks_at, as_choice_at}
use Rattle.rpki_der.specs.declared.error.DerError.TheVariants.{EmptyBlocks}
use Rattle.rpki_der.specs.SequenceFaults.{BeginsEmpty, BeginsWithValue}
use Rattle.rpki_der.proofs.SequenceFaults.{NamesTo, enclosed_fails, enclosed_names, header_names, no_values}
use Rattle.rpki_der.proofs.SequenceFaults.{refined_names, values_names}
use Rattle.rpki_chain.proofs.ChoiceFaults.{choice_fails, choice_names}
use Rattle.rpki_as_block.proofs.AsBlockDerFaults.{block_names}

abbrev choice : List ℕ → Result (ResourcesChoice (List AsBlock) × List ℕ) DerError
choice = choice_at (values_of as_block_at)

listed_names : (content : List ℕ) → NamesTo {X = List AsBlock} 10 (values_of as_block_at content)
listed_names = values_names 10 as_block_at (omega arith) block_names

pub empty_blocks : (bytes : List ℕ)
    → (as_choice_at bytes ≡ Err EmptyBlocks) ↔ BeginsWithValue 48 (BeginsWithValue 160 BeginsEmpty) bytes
empty_blocks =
    enclosed_fails 48 (enclosed_at 160 choice) (BeginsWithValue 160 BeginsEmpty) EmptyBlocks (omega arith)
    (enclosed_fails 160 choice BeginsEmpty EmptyBlocks (omega arith)
    (choice_fails (values_of as_block_at) listed_names (no_values as_block_at)))

-- ---- which faults are named: none that isn't canonical

pub blocks_names : (bytes : List ℕ) → NamesTo 10 (as_blocks_at bytes)
blocks_names = refined_names 10 (tagged_at 48) (values_of as_block_at) (header_names 10 48 (omega arith)) listed_names

pub resources_names : (bytes : List ℕ) → NamesTo 11 (as_choice_at bytes)
resources_names =
    enclosed_names 11 48 (enclosed_at 160 choice) (omega arith)
    (enclosed_names 11 160 choice (omega arith) (choice_names (values_of as_block_at) listed_names))
