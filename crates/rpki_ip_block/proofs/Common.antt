-- What the proofs of this crate use of std, of the crates below and of its own definitions, passed on by one name.
pub use Rattle.std.proofs.Common.{All, Bool, Contains, Err, IfSome, IsTrue, List, MatchResult, None, Ok, Option, Result}
pub use Rattle.std.proofs.Common.{Some, Vec, [], ap, append-nil, append_assoc, arith, codes, decimal, eqb, false, inl}
pub use Rattle.std.proofs.Common.{inr, length, length-append, lit<, lit≤, map, refl, subst, suc, sym, true, zero, ℕ}
pub use Rattle.std.proofs.Common.{◌*◌, ◌++◌, ◌+◌, ◌-◌, ◌/◌, ◌<◌, ◌^◌, ◌↔◌, ◌∙◌, ◌∷◌, ◌≡◌, ◌≢◌, ◌≤◌}
pub use Rattle.std.proofs.Math.Nat.{add-mul, mul-mod_left, mul_assoc}
pub use Rattle.std.proofs.NetLemmas.Alphabet.{IsDigitOrDot}
pub use Rattle.std.proofs.lemmas.Bool.{and_from, and_parts, cases_eq, cases_order, eq-eqb, eqb-true, ne_eqb}
pub use Rattle.std.proofs.lemmas.List.Elements.{All-append, All-cons, All-contains, All-from_recursion, All-head}
pub use Rattle.std.proofs.lemmas.List.Elements.{All-nil, All-tail, All-weaker, Contains-append_left, recursion_from_All}
pub use Rattle.std.proofs.lemmas.Nat.{pow-add, pow_below, pow_pos}
pub use Rattle.std.proofs.lemmas.Str.Parse.{digit_from_value}
pub use Rattle.std.specs.Int.{IsInRange}
pub use Rattle.std.specs.List.{AllByRecursion, flat_map}
pub use Rattle.std.specs.Prelude.{IfOk}
pub use Rattle.rpki_addr.proofs.AddressBytes.{no_dash, no_slash, not_slash}
pub use Rattle.rpki_addr.proofs.AddressTextLemmas.{IsIpText-ip_text}
pub use Rattle.rpki_ip.specs.AddrText.{family_of, first_of, greatest_of}
pub use Rattle.rpki_addr.specs.PrintedAddress.{ip_text}
pub use Rattle.rpki_addr.specs.declared.addr.IpAddr.{IpAddr}
pub use Rattle.rpki_addr.specs.declared.addr.IpAddr.TheVariants.{V4, V6}
pub use Rattle.rpki_cover.proofs.PrefixNumbers.{cleared_first}
pub use Rattle.rpki_cover.specs.Bits.{cleared}
pub use Rattle.rpki_cover.specs.Prefixes.{IsPrefix, PrefixValue, last_of}
pub use Rattle.rpki_der.proofs.SequenceCursors.{reads_optional_value_by}
pub use Rattle.rpki_der.specs.Families.{bits_of}
pub use Rattle.rpki_der.specs.declared.family.AddressFamily.{AddressFamily}
pub use Rattle.rpki_der.specs.declared.family.AddressFamily.TheVariants.{Ipv4, Ipv6}
pub use Rattle.rpki_der.proofs.ReadingModes.{exact_optional_by, refused_optional_by}
pub use Rattle.rpki_der.proofs.ValueReadings.{fits_content, one_front, same_reading}
pub use Rattle.rpki_der.specs.Der.{Each, IsBytes, Spells}
pub use Rattle.rpki_der.specs.Reading.{IsReading, optional, value_at}
pub use Rattle.rpki_der.specs.Views.{Lenient, NotCanonicalOr, ReadsOptional, Strict, Takes, is_strict, left}
pub use Rattle.rpki_ip.proofs.PrefixDerModes.{bits_few_enough, prefix_is_spelled, spelled_is_prefix, within}
pub use Rattle.rpki_ip.proofs.PrefixDerWritten.{few_bits, prefix_written, range_spelled, range_written}
pub use Rattle.rpki_ip.proofs.RangeTextLemmas.{answers_by_one, prefix_one, range_one, single_of, single_one}
pub use Rattle.rpki_ip.specs.BlockText.{HasAddressFault, HasIpPrefixTextFault, HasRangeTextFault, IsAddressText}
pub use Rattle.rpki_ip.specs.BlockText.{IsIpPrefixText, IsPrefixAt, IsRangeFrom, IsRangeText, IsSingleText}
pub use Rattle.rpki_ip.specs.PrefixDer.{IsStrictPrefix, prefix_at, prefix_der, prefix_in}
pub use Rattle.rpki_ip.specs.PrintedText.{as_ip, shown_bits}
pub use Rattle.rpki_ip.specs.RangeDer.{IsSpan, is_written_as, range_content, range_in, without_end_ones}
pub use Rattle.rpki_ip.specs.RangeDer.{without_end_zeros}
pub use Rattle.rpki_ip.specs.Ranges.{IsRangeOf, RangeValue, range_bounds}
pub use Rattle.rpki_ip.specs.declared.error.FromStrError.{FromStrError}
pub use Rattle.rpki_prefix.specs.Values.{FamilyPrefix, IsFamilyPrefix}
pub use Rattle.rpki_text.proofs.PrintedListLemmas.{IsElement, elements-joined}
pub use Rattle.rpki_text.specs.Cuts.{Around, HasNo, IsCutAt, dash, slash}
pub use Rattle.rpki_text.specs.Lists.{HasFirstFault, HaveValues, elements}
pub use Rattle.rpki_text.specs.Memory.{IfRefused, IsMemory}
pub use Rattle.rpki_text.specs.Reading.{Answers, AnswersOrMemory}
pub use Rattle.rpki_text.specs.declared.memory.OrMemory.{OrMemory}
pub use Rattle.rpki_ip_block.specs.BlockDer.{IsBlockWithin, IsIpBlockDer, IsSetIpBlock, ip_block_der}
pub use Rattle.rpki_ip_block.specs.BlockFronts.{IsAfterOptionalSpace, IsBlockAtFront, IsPrefixAfterSlash}
pub use Rattle.rpki_ip_block.specs.BlockFronts.{IsRangeAfterDash}
pub use Rattle.rpki_ip_block.specs.BlockModeLaws.{ip_block_modal, next_ip_block_modal}
pub use Rattle.rpki_ip_block.specs.BlockModes.{IsNextIpBlock, IsStrictIpBlock}
pub use Rattle.rpki_ip_block.specs.BlockReading.{ip_block_at, ip_block_by, ip_block_of, is_range, is_set_range}
pub use Rattle.rpki_ip_block.specs.BlockReading.{next_ip_block_by, prefix_block_in, range_block_in, span}
pub use Rattle.rpki_ip_block.specs.BlockReadingLaws.{ip_block_has_octets, ip_block_reading}
pub use Rattle.rpki_ip_block.specs.BlockText.{HasIpBlockFault, IsIpBlockText}
pub use Rattle.rpki_ip_block.specs.Blocks.{block_from, ip_bounds, new_ip_block, prefix_bounds}
unfoldable pub use Rattle.rpki_ip_block.specs.Blocks.{has_length, length_of, length_upto}
pub use Rattle.rpki_ip_block.specs.ListText.{HasBlocks, HasBlocksFault, HasElementFault, HasIpBlocks, HasIpBlocksFault}
pub use Rattle.rpki_ip_block.specs.ListText.{HasMismatch, IsElementText, IsFamilyOf, IsForeign, colon}
pub use Rattle.rpki_ip_block.specs.PrintedBlocks.{IsBlock, IsBlockOf, ReadsIpBlock, block_list_text, ip_block_text}
pub use Rattle.rpki_ip_block.specs.declared.block.IpBlock.{IpBlock}
pub use Rattle.rpki_ip_block.specs.declared.block.IpBlock.TheVariants.{Prefix, Range}
