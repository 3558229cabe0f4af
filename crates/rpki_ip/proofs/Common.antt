-- What the proofs of this crate use of std, of the crates below and of its own definitions, passed on by one name.
pub use Rattle.std.proofs.Common.{Bool, Err, IsTrue, List, None, Ok, Result, Some, [], ap, append_assoc, arith, bit_and}
pub use Rattle.std.proofs.Common.{bit_or, cond, drop, false, get_or, inl, inr, is_ok, length, length-drop, lit<, map}
pub use Rattle.std.proofs.Common.{refl, replicate, rules, subst, suc, sym, take, true, zero, ℕ, ◌%◌, ◌*◌, ◌++◌, ◌+◌}
pub use Rattle.std.proofs.Common.{◌-◌, ◌/◌, ◌<◌, ◌^◌, ◌↔◌, ◌∙◌, ◌∷◌, ◌≡◌, ◌≤◌}
pub use Rattle.std.proofs.Math.Nat.{div-div-eq-div-mul, mod-eq_of_lt, mod_self, mul-add-mod_self_right, mul-div_cancel}
pub use Rattle.std.proofs.Math.Nat.{mul-mod_left, mul_assoc, pow-le-pow_right, pow-suc, two-pow-succ, zero-div}
pub use Rattle.std.proofs.lemmas.Bool.{and_parts, cases_lt, cases_order, eqb-true, le-leb, le-ltb, leb-true, lt-ltb}
pub use Rattle.std.proofs.lemmas.Bool.{ltb-false, ltb-true, or_from, or_parts}
pub use Rattle.std.proofs.lemmas.List.{drop-replicate, length-append, length-take, take-append-drop}
pub use Rattle.std.proofs.lemmas.List.Elements.{All-head, All-rest}
pub use Rattle.std.proofs.lemmas.Nat.{and_block, and_comm, and_mask, div-add-mod', div-mul-add, field_of}
pub use Rattle.std.proofs.lemmas.Nat.{leading_length, pow-add, or_lt, pow_below, pow_pos, shl-shr, shl_below, shr-shr}
pub use Rattle.std.proofs.lemmas.Nat.{shr_below, shr_le, shr_split, trailing_le}
pub use Rattle.std.proofs.lemmas.Result.{err_from_is_err_and}
pub use Rattle.std.proofs.lemmas.Str.Pattern.{split_parts}
pub use Rattle.std.specs.Int.{bit_not, byte_at, bytes_high_first, from_be_bytes, to_be_bytes, trailing_ones}
pub use Rattle.std.specs.Int.{trailing_zeros, w128}
pub use Rattle.std.specs.Int.Count.{count_leading_zeros, count_trailing_zeros}
pub use Rattle.rpki_addr.proofs.WidthLemmas.{width_small}
pub use Rattle.rpki_addr.specs.AddressText.{IsIpv4Text, IsIpv6Text}
pub use Rattle.rpki_addr.specs.Widths.{width}
pub use Rattle.rpki_cover.proofs.BitMasks.{clear_host, host_ones, set_host}
pub use Rattle.rpki_cover.proofs.Multiples.{IsMultiple, mod_multiple, multiple_diff, multiple_gap, multiple_least}
pub use Rattle.rpki_cover.proofs.Multiples.{multiple_mod, multiple_self, multiple_smaller, multiple_sum, zeros_divide}
pub use Rattle.rpki_cover.proofs.Multiples.{zeros_greatest}
pub use Rattle.rpki_cover.proofs.PrefixNumbers.{cleared_first, power_is}
pub use Rattle.rpki_cover.proofs.ShortestCover.{cover_prefixes}
pub use Rattle.rpki_cover.proofs.WidenedCovers.{whole_cover, widened_prefix}
pub use Rattle.rpki_cover.specs.Bits.{cleared}
pub use Rattle.rpki_cover.specs.Covers.{IsShortestCover, widened}
pub use Rattle.rpki_cover.specs.Prefixes.{IsPrefix, PrefixValue, last_of}
pub use Rattle.rpki_der.proofs.FamilyDerLemmas.{family_reading, family_written}
pub use Rattle.rpki_der.specs.Families.{bits_of}
pub use Rattle.rpki_block.specs.Bounds.{IsWithin}
pub use Rattle.rpki_der.proofs.ContentReadings.{bits_check}
pub use Rattle.rpki_der.proofs.CursorReadings.{parses_by, reads_by}
pub use Rattle.rpki_der.proofs.ReadingModes.{bind_tightens, exact_by, is_padded_of, looked_tightens, padded_is}
pub use Rattle.rpki_der.proofs.ReadingModes.{passed_is, passes, refused_by, refused_in, same_found, then_passing}
pub use Rattle.rpki_der.proofs.ValueReadings.{IsTagged, content_reading, fits_content, on_bytes, one_front}
pub use Rattle.rpki_der.proofs.ValueReadings.{same_reading}
pub use Rattle.rpki_der.proofs.ReadingSteps.{IsBytes-rest, IsCheck, bind_ok, fits_front, ok_or_err}
pub use Rattle.rpki_der.proofs.WrittenValues.{value_is}
pub use Rattle.rpki_der.specs.Der.{Bits, IsBitString, IsBits, IsBytes, IsPadded, IsSequence, Refines, Spells, Where}
pub use Rattle.rpki_der.specs.Der.{big_endian, big_endian_after, bit_content, bit_string_value, bits_with, last_octet}
unfoldable pub use Rattle.rpki_der.specs.Der.{header, length_octets}
pub use Rattle.rpki_der.specs.Reading.{Gives, IsModal, IsReading, Tightens, is_longer, is_padded, tagged_at, ◌>>=◌}
unfoldable pub use Rattle.rpki_der.specs.Reading.{bits, bits_by, passing, refined}
pub use Rattle.rpki_der.specs.Views.{Lenient, LenientIn, NotCanonicalInOr, NotCanonicalOr, Parses, ReadsValue, Strict}
pub use Rattle.rpki_der.specs.Views.{StrictIn, Takes, content_octets, is_strict, is_strict_in, left}
pub use Rattle.rpki_der.specs.declared.error.DerError.{DerError}
pub use Rattle.rpki_der.specs.declared.error.DerError.TheVariants.{BadPrefix, NotCanonical, ReversedRange}
pub use Rattle.rpki_text.specs.Cuts.{dash, slash}
pub use Rattle.rpki_ip.specs.AddrText.{IsFirstOf}
pub use Rattle.rpki_ip.specs.BlockText.{HasPrefixFault, HasRangeFault, IsIpRangeBetween, IsPrefixAt, IsPrefixBetween}
pub use Rattle.rpki_ip.specs.PrefixDer.{IsPrefixContent, IsPrefixDer, IsPrefixWithin, IsStrictContent, SaysPrefix}
pub use Rattle.rpki_ip.specs.PrefixDer.{octet_count, prefix_at, prefix_bits, prefix_by, prefix_der}
unfoldable pub use Rattle.rpki_ip.specs.PrefixDer.{prefix_in, prefix_in_by, prefix_of, prefix_of_by}
pub use Rattle.rpki_ip.specs.RangeDer.{IsRangeDer, IsRangeWithin, IsShortestFrom, IsShortestTo, IsSpan, SaysRange}
pub use Rattle.rpki_ip.specs.RangeDer.{range_content, range_der, range_in, without_end_ones, without_end_zeros}
unfoldable pub use Rattle.rpki_ip.specs.RangeDer.{span_of}
pub use Rattle.rpki_ip.specs.Ranges.{IsRangeOf, RangeValue, range_bounds}
