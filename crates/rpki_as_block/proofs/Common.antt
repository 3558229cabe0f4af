-- What the proofs of this crate use of std, of the crates below and of its own definitions, passed on by one name.
pub use Rattle.std.proofs.Common.{Err, List, MatchResult, None, Ok, Option, Result, Some, [], ap, arith, drop, get_or}
pub use Rattle.std.proofs.Common.{inl, inr, is_ok, length, length-drop, lit<, refl, subst, suc, sym, take, true, zero}
pub use Rattle.std.proofs.Common.{ℕ, ◌++◌, ◌+◌, ◌-◌, ◌<◌, ◌^◌, ◌↔◌, ◌∙◌, ◌∷◌, ◌≡◌, ◌≤◌, ◌⊎◌}
pub use Rattle.std.proofs.Math.Seq.{drop-length, take-append-add, take-length}
pub use Rattle.std.proofs.lemmas.Bool.{lt-ltb, ltb-true}
pub use Rattle.std.proofs.lemmas.Bool.Decides.{nat_tests}
pub use Rattle.std.proofs.lemmas.List.{append-nil, append_assoc, drop-drop, drop_more, length-append, length-take}
pub use Rattle.std.proofs.lemmas.List.{take-append-drop}
pub use Rattle.std.specs.Int.{IsInRange}
pub use Rattle.std.specs.List.{AllByRecursion}
pub use Rattle.rpki_base.specs.AsnDer.{as_number_at, as_number_octets}
pub use Rattle.rpki_block.specs.Ranges.{RangeValue, range_bounds}
pub use Rattle.rpki_block.specs.Bounds.{IsNew, IsWithin}
pub use Rattle.rpki_der.proofs.ReadingModes.{exact_optional_by}
pub use Rattle.rpki_der.proofs.ValueReadings.{one_front, same_reading}
pub use Rattle.rpki_der.proofs.WrittenValues.{length-header, u32_is, value_is}
pub use Rattle.rpki_der.specs.Reading.{IsReading, optional, passing, unsigned, value_at, ◌>>=◌}
unfoldable pub use Rattle.rpki_der.specs.Reading.{refined}
pub use Rattle.rpki_text.specs.Cuts.{HasNo, dash}
pub use Rattle.rpki_as_block.specs.AsDer.{HasAsNumbers, IsAsBlock, IsSetBlock, as_block_octets, as_range_content}
pub use Rattle.rpki_as_block.specs.AsDerLaws.{as_block_has_octets, as_block_reading}
pub use Rattle.rpki_as_block.specs.AsDerModeLaws.{as_block_modal, next_block_modal}
pub use Rattle.rpki_as_block.specs.AsDerModes.{IsNextBlock, IsStrictBlock}
pub use Rattle.rpki_as_block.specs.AsDerReading.{as_block_at, as_block_by, as_block_of, as_id_in, as_range_block_in}
pub use Rattle.rpki_as_block.specs.AsDerReading.{as_range_in, is_new_form, next_block_by}
unfoldable pub use Rattle.rpki_as_block.specs.AsDerReading.{range_of}
pub use Rattle.rpki_as_block.specs.BlockPlaces.{AreAsBlocksFrom, IsAfterSpace, IsAsBlockAt, IsAsBlockBetween, IsEndAt}
pub use Rattle.rpki_as_block.specs.BlockPlaces.{StandsAt}
pub use Rattle.rpki_as_block.specs.BlockText.{HasAsBlockFault, IsAsBlockText, IsAsRangeBetween, NoRange, ReadsAsBlock}
pub use Rattle.rpki_as_block.specs.BlockText.{as_block_text}
pub use Rattle.rpki_as_block.specs.Blocks.{as_bounds, new_as_block}
pub use Rattle.rpki_as_block.specs.Numbers.{IsListOf, IsSizeOf, numbers_from}
unfoldable pub use Rattle.rpki_as_block.specs.Numbers.{numbers_within}
pub use Rattle.rpki_as_block.specs.declared.block.AsBlock.{AsBlock}
pub use Rattle.rpki_as_block.specs.declared.block.AsBlock.TheVariants.{Id, Range}
