-- What the proofs of this crate use of std, of the crates below and of its own definitions, passed on by one name.
pub use Rattle.std.proofs.Common.{Bool, Err, List, MatchResult, None, Ok, Option, Result, Some, Vec, [], ap, arith}
pub use Rattle.std.proofs.Common.{codes, false, get_or, inl, inr, length, lit≤, map, refl, slice_index, subst, suc, sym}
pub use Rattle.std.proofs.Common.{take, zero, ℕ, ⊎_elim, ◌*◌, ◌++◌, ◌+◌, ◌-◌, ◌<◌, ◌^◌, ◌↔◌, ◌∙◌, ◌∷◌, ◌≡◌, ◌≢◌, ◌≤◌}
pub use Rattle.std.proofs.Common.{◌⊎◌}
pub use Rattle.std.proofs.lemmas.Bool.{cases_lt, eq-eqb, le-ltb, lt-ltb, ne_eqb}
pub use Rattle.std.proofs.lemmas.List.{get_or-append_right, get_or_append_left, length-append, take_all}
pub use Rattle.std.proofs.lemmas.List.Elements.{All-head, All-tail, Contains-append_cases, Contains-append_left}
pub use Rattle.std.proofs.lemmas.List.Elements.{Contains-append_right, Contains-get_or, recursion_from_All}
pub use Rattle.std.proofs.lemmas.List.Folds.{flat_map-map, length-flat_map-take}
pub use Rattle.std.proofs.lemmas.Result.{err_from_is_err_and}
pub use Rattle.std.specs.List.{All, AllByRecursion, AllPairs, flat_map}
pub use Rattle.rpki_as_block.proofs.AsBlockDerLemmas.{block_numbers, block_spelled, block_written, length-content}
pub use Rattle.rpki_as_block.proofs.AsBlockDerLemmas.{length-number}
pub use Rattle.rpki_as_block.proofs.AsBlockTextLemmas.{IsAsBlockText-block_text, IsAsBlockText-one, block_apart}
pub use Rattle.rpki_as_block.proofs.AsBlockTextLemmas.{same_block_fault}
pub use Rattle.rpki_as_block.proofs.IntervalNumberLemmas.{IsListOf-numbers_within, length-numbers_within}
pub use Rattle.rpki_as_block.specs.AsDer.{IsAsBlock, IsBlockInAnyOrder, as_block_octets}
pub use Rattle.rpki_as_block.specs.AsDerLaws.{as_block_has_octets, as_block_reading, skip_reading}
pub use Rattle.rpki_as_block.specs.AsDerModeLaws.{next_block_modal}
pub use Rattle.rpki_as_block.specs.AsDerModes.{IsNextBlock, IsStrictBlock}
pub use Rattle.rpki_as_block.specs.AsDerReading.{as_block_at, next_block_by, skip_block_at}
pub use Rattle.rpki_as_block.specs.BlockText.{HasAsBlockFault, IsAsBlockText, ReadsAsBlock, as_block_text}
pub use Rattle.rpki_as_block.specs.Blocks.{as_bounds, new_as_block}
pub use Rattle.rpki_as_block.specs.Numbers.{IsListOf, IsSizeOf, numbers_of, numbers_within}
pub use Rattle.rpki_as_block.specs.declared.block.AsBlock.{AsBlock}
pub use Rattle.rpki_as_block.specs.declared.error.FromStrError.{FromStrError}
pub use Rattle.rpki_der.proofs.SaidInModes.{IsSaidInModes, enclosed_said, one_said, said_alike, taken_said}
pub use Rattle.rpki_der.proofs.SaidInModes.{written_said}
pub use Rattle.rpki_der.specs.SequenceReading.{Encloses, IsSequenceFrom, IsSequenceOf, enclosed_at, values_of}
unfoldable pub use Rattle.rpki_der.specs.SequenceReading.{only}
pub use Rattle.rpki_chain.proofs.AscendingDer.{listed_are}
pub use Rattle.rpki_chain.proofs.BlocksInModes.{AreBlocksInModes, choice_said, set_said}
pub use Rattle.rpki_chain.proofs.ClaimLemmas.{claims_decide, empty_set}
pub use Rattle.rpki_chain.proofs.RunLists.{IsRunsOf-unique, IsRunsOfBlocks-bounds, same_numbers}
pub use Rattle.rpki_chain.specs.ChoiceDer.{IsChoiceOf, choice_at}
pub use Rattle.rpki_chain.specs.Claims.{Claim, IsClaim, claim_of}
pub use Rattle.rpki_chain.specs.Runs.{Holds, IsRunsOfBlocks, Runs}
pub use Rattle.rpki_chain.specs.declared.choice.ResourcesChoice.{ResourcesChoice}
pub use Rattle.rpki_chain.specs.declared.choice.ResourcesChoice.TheVariants.{Blocks, Inherit, Missing}
pub use Rattle.rpki_chain_core.specs.Sets.{Covers, IsChain, IsWithin}
pub use Rattle.rpki_der.proofs.ValueReadings.{one_front}
pub use Rattle.rpki_der.proofs.WrittenValues.{length-header}
pub use Rattle.rpki_der.specs.Der.{OneFront, sequence_value, value}
unfoldable pub use Rattle.rpki_der.specs.Der.{header, length_octets}
pub use Rattle.rpki_der.specs.Reading.{tagged_at}
unfoldable pub use Rattle.rpki_der.specs.Reading.{refined}
pub use Rattle.rpki_der.specs.declared.error.DerError.{DerError}
pub use Rattle.rpki_text.proofs.TextListLemmas.{AnswersOrMemory-from_found, HaveValues-one, first_fault_apart}
pub use Rattle.rpki_text.proofs.TextListLemmas.{found_weaker, same_first_fault}
pub use Rattle.rpki_text.proofs.PrintedListLemmas.{IsElement, elements-joined, written_more}
pub use Rattle.rpki_text.specs.Lists.{HaveValues, elements}
pub use Rattle.rpki_text.specs.Memory.{IfRefused}
pub use Rattle.rpki_text.specs.Reading.{AnswersOrMemory}
pub use Rattle.rpki_text.specs.declared.memory.OrMemory.{OrMemory}
pub use Rattle.rpki_as.specs.AsDer.{IsAsChoice, IsAsResources, IsPresentAsClaim, as_resources_octets, as_run_octets}
pub use Rattle.rpki_as.specs.AsDer.{as_sequence_octets, as_set_octets}
pub use Rattle.rpki_as.specs.AsDerReading.{as_blocks_at, as_blocks_by, as_choice_at, as_choice_by, greatest_of_as_block}
pub use Rattle.rpki_as.specs.Blocks.{IsAsSet}
pub use Rattle.rpki_as.specs.ListText.{HasAsListFault, IsAsListText, as_list_text}
pub use Rattle.rpki_as.specs.ResourcesText.{HasAsResourcesFault, IsAsResourcesText, IsInherit, as_resources_text}
