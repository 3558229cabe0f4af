-- What the proofs of this crate use of std, of the crates below and of its own definitions, passed on by one name.
pub use Rattle.std.proofs.Common.{Err, List, None, Ok, Option, Result, Some, [], ap, arith, eqb, false, get_or, inl}
pub use Rattle.std.proofs.Common.{inr, length, map, refl, subst, sym, take, true, ℕ, ⊎_elim, ◌%◌, ◌++◌, ◌+◌, ◌-◌, ◌<◌}
pub use Rattle.std.proofs.Common.{◌^◌, ◌↔◌, ◌∙◌, ◌∷◌, ◌≡◌, ◌≢◌, ◌≤◌}
pub use Rattle.std.proofs.lemmas.Bool.{cases_order}
pub use Rattle.std.proofs.lemmas.List.{append_cancel_left, get_or-map, length-append, length-map}
pub use Rattle.std.proofs.lemmas.List.Elements.{All-from_recursion, All-map, All-take, recursion_from_All}
pub use Rattle.std.proofs.lemmas.Nat.{pow_pos}
pub use Rattle.std.proofs.lemmas.Result.{IfOk-weaker, err_from_is_err_and}
pub use Rattle.std.specs.List.{All, AllByRecursion}
pub use Rattle.std.specs.Prelude.{IfOk, IfSome}
pub use Rattle.rpki_der.proofs.SequenceReadings.{one_front_said}
pub use Rattle.rpki_der.proofs.SequenceWriting.{content_shorter, one_content, written_alike}
pub use Rattle.rpki_der.proofs.FamiliesGathering.{IsThere, each_there}
pub use Rattle.rpki_der.proofs.FamiliesSaid.{one_families, stands_for, stood_for}
pub use Rattle.rpki_der.proofs.SaidInModes.{IsSaidInModes, taken_said, written_said}
pub use Rattle.rpki_der.proofs.FamilyDerLemmas.{family_reading, family_written}
pub use Rattle.rpki_der.specs.SequenceReading.{IsSequenceFrom, IsSequenceOf, values_of}
pub use Rattle.rpki_der.specs.SequenceViews.{NotCanonicalOrMemory}
pub use Rattle.rpki_der.specs.SequenceWriting.{octets_of_all, sequence_octets}
pub use Rattle.rpki_der.specs.Families.{bits_of}
pub use Rattle.rpki_der.specs.FamiliesDer.{ByFamily, IsFamilies, IsFamiliesInOrder, families_der, option_der}
pub use Rattle.rpki_der.specs.FamilyDer.{IsFamilyDer, family_at, family_der}
pub use Rattle.rpki_der.specs.declared.family.AddressFamily.{AddressFamily}
pub use Rattle.rpki_der.specs.declared.family.AddressFamily.TheVariants.{Ipv4, Ipv6}
pub use Rattle.rpki_chain.proofs.AscendingDer.{listed_are}
pub use Rattle.rpki_chain.proofs.ClaimLemmas.{claims_decide, lists_one}
pub use Rattle.rpki_chain.proofs.RunLists.{IsRunsOf-unique, IsRunsOfBlocks-bounds, same_numbers}
pub use Rattle.rpki_chain.proofs.SetLemmas.{bounds_made}
pub use Rattle.rpki_chain.specs.ChoiceDer.{IsChoiceOf}
pub use Rattle.rpki_chain.specs.Claims.{Claim, claim_of}
pub use Rattle.rpki_chain.specs.Runs.{Holds, IsRunsOf, IsRunsOfBlocks, Runs}
pub use Rattle.rpki_chain.specs.declared.choice.ResourcesChoice.{ResourcesChoice}
pub use Rattle.rpki_chain.specs.declared.choice.ResourcesChoice.TheVariants.{Blocks, Inherit, Missing}
pub use Rattle.rpki_chain_core.specs.Sets.{Covers, IsChain, IsChainOf, IsRun}
pub use Rattle.rpki_der.proofs.ReadingModes.{tested_modal}
pub use Rattle.rpki_der.proofs.WrittenValues.{value_is}
pub use Rattle.rpki_der.specs.Der.{OneFront, Refines, Spells, Where, sequence_value}
unfoldable pub use Rattle.rpki_der.specs.Der.{header}
pub use Rattle.rpki_der.specs.Reading.{tagged_at}
pub use Rattle.rpki_der.specs.declared.cursor.Cursor.{Cursor}
pub use Rattle.rpki_der.specs.declared.error.DerError.{DerError}
pub use Rattle.rpki_ip.proofs.PrefixDerModes.{bits_few_enough, within}
pub use Rattle.rpki_ip.proofs.WholeRangeLemmas.{whole_set}
pub use Rattle.rpki_ip.specs.Whole.{HasWholeBounds, IsWhole}
pub use Rattle.rpki_ip_block.proofs.IpBlockDerWritten.{block_written}
pub use Rattle.rpki_ip_block.proofs.BlockFormLemmas.{new_block_fits}
pub use Rattle.rpki_ip_block.proofs.BlockListLemmas.{same_blocks, same_ip_blocks}
pub use Rattle.rpki_ip_block.proofs.WholeBlockReadings.{whole_each, whole_list_without_family}
pub use Rattle.rpki_ip_block.specs.BlockDer.{IsBlockWithin, IsIpBlockDer, IsSetIpBlock, ip_block_der}
pub use Rattle.rpki_ip_block.specs.BlockFormLaws.{new_ip_block_bounds}
pub use Rattle.rpki_ip_block.specs.BlockReading.{ip_block_at, ip_block_by, ip_blocks_at, next_ip_block_by}
pub use Rattle.rpki_ip_block.specs.BlockReadingLaws.{blocks_reading, ip_block_has_octets, ip_block_reading}
pub use Rattle.rpki_ip_block.specs.Blocks.{ip_bounds, new_ip_block}
pub use Rattle.rpki_ip_block.specs.ListText.{HasBlocks, HasIpBlocks}
pub use Rattle.rpki_ip_block.specs.PrintedBlocks.{IsBlock, IsBlockOf}
pub use Rattle.rpki_ip_block.specs.declared.block.IpBlock.{IpBlock}
pub use Rattle.rpki_ip_block.specs.declared.block.IpBlock.TheVariants.{Prefix, Range}
pub use Rattle.rpki_text.specs.declared.memory.OrMemory.{OrMemory}
pub use Rattle.rpki_text.specs.declared.memory.OrMemory.TheVariants.{Memory, Refused}
pub use Rattle.rpki_ipres.specs.Modes.{greatest_of_ip_block, ip_blocks_by, ip_families_by, ip_resources_by}
pub use Rattle.rpki_ipres.specs.Resources.{ArePresentClaims, IsFamilyClaim, IsIpClaim, IsPresentFamilyClaim}
pub use Rattle.rpki_ipres.specs.Resources.{IsWholeClaim}
pub use Rattle.rpki_chain.specs.Choices.{if_present}
pub use Rattle.rpki_ipres.specs.ResourcesDer.{IsIpFamilies, IsIpResources, SaysClaimOf, SaysClaims, ip_families_at}
pub use Rattle.rpki_ipres.specs.ResourcesDer.{ip_families_der, ip_member_der, ip_resources_at, ip_resources_der}
pub use Rattle.rpki_ipres.specs.ResourcesReadingLaws.{resources_reading}
pub use Rattle.rpki_ipres.specs.SetDer.{IsIpBlockSequence, IsIpFamily, ip_family_der, ip_run_der, ip_set_der}
pub use Rattle.rpki_ipres.specs.SetText.{IsFamilySet, IsIpSet, IsSetOf, set_text}
