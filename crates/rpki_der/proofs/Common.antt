-- What the proofs of this crate use of std, of the crates below and of its own definitions, passed on by one name.
pub use Rattle.std.proofs.Common.{Bool, Err, List, None, Ok, Option, Result, Some, [], ap, append_assoc, arith, cond}
pub use Rattle.std.proofs.Common.{drop, eqb, false, get_or, inl, inr, length, ltb, option_map, refl, replicate, subst}
pub use Rattle.std.proofs.Common.{suc, sym, take, true, vec_len, zero, ℕ, ◌%◌, ◌&&◌, ◌*◌, ◌++◌, ◌+◌, ◌-◌, ◌<◌, ◌^◌, ◌↔◌}
pub use Rattle.std.proofs.Common.{◌∙◌, ◌∷◌, ◌≡◌, ◌≢◌, ◌≤◌}
pub use Rattle.std.proofs.lemmas.Bool.{and_parts, cases_lt, eq-eqb, eqb-false, eqb-true, le-ltb, leb-false, lt-leb}
pub use Rattle.std.proofs.lemmas.Bool.{lt-ltb, ltb-false, ltb-true, ne_eqb, or_from, or_parts}
pub use Rattle.std.proofs.lemmas.List.{append-nil, append_cancel_right, at_drop_more, drop_at, get_or-append-add}
pub use Rattle.std.proofs.lemmas.List.{get_or_append_left, get_or_past, length-append, length-replicate, length-take}
pub use Rattle.std.proofs.lemmas.List.{nil_from_length, take-append-drop, take_all, take_at, take_more}
pub use Rattle.std.specs.Int.{bytes_high_first, from_be_bytes, to_be_bytes, w64}
pub use Rattle.rpki_der.specs.Der.{Bits, Each, EachFrom, Front, IsBitContent, IsBitString, IsBits, IsBytes, IsLength}
pub use Rattle.rpki_der.specs.Der.{IsLongLength, IsNothing, IsNull, IsOctetString, IsPadded, IsSequence, IsTag, IsTlv}
pub use Rattle.rpki_der.specs.Der.{IsU32, IsUnsigned, IsValue, NoFront, OneFront, Refines, Tlv, Where, big_endian}
pub use Rattle.rpki_der.specs.Der.{big_endian_after, bit_string_value, last_octet, null_value, sequence_value}
pub use Rattle.rpki_der.specs.Der.{u32_value, value, with_sign, without_zeros}
unfoldable pub use Rattle.rpki_der.specs.Der.{header, integer, length_octets, octets}
pub use Rattle.rpki_der.specs.Reading.{Gives, IsModal, IsReading, Tightens, bit_string_at, bit_string_by, each, ended}
pub use Rattle.rpki_der.specs.Reading.{is_padded, null_at, u32_at, ◌>>=◌}
unfoldable pub use Rattle.rpki_der.specs.Reading.{bits, bits_by, each_from, length_at, long_length_at, nothing}
unfoldable pub use Rattle.rpki_der.specs.Reading.{optional, passing, refined, tagged_at, unsigned, value_at}
pub use Rattle.rpki_der.specs.Views.{Lenient, NotCanonicalInOr, NotCanonicalOr, Parses, ReadsOptional, ReadsValue}
pub use Rattle.rpki_der.specs.Views.{Strict, Takes, content_octets, is_strict, is_strict_in, left}
pub use Rattle.rpki_der.specs.declared.cursor.Cursor.{Cursor}
pub use Rattle.rpki_der.specs.declared.error.DerError.{DerError}
pub use Rattle.rpki_der.specs.declared.error.DerError.TheVariants.{BadTag, DuplicateFamily, NoFamily, NotCanonical}
pub use Rattle.rpki_der.specs.declared.error.DerError.TheVariants.{Truncated}
pub use Rattle.rpki_der.proofs.GrammarWords.{Grammar, Reading}
pub use Rattle.std.proofs.lemmas.Result.{err_from_is_err_and}
pub use Rattle.std.specs.List.{AllByRecursion}
pub use Rattle.std.specs.Prelude.{IfSome, IsErrAnd, MatchResult}
pub use Rattle.rpki_text.specs.Memory.{IfRefused, IsMemory}
pub use Rattle.rpki_text.specs.declared.memory.OrMemory.{OrMemory}
pub use Rattle.rpki_text.specs.declared.memory.OrMemory.TheVariants.{Memory, Refused}
pub use Rattle.rpki_der.specs.SequenceFaults.{BeginsEmpty, BeginsWithAll, BeginsWithTwo, BeginsWithValue}
pub use Rattle.rpki_der.specs.SequenceReading.{Encloses, IsSequenceFrom, SaysByTag, SaysPair, Skips, enclosed_at}
pub use Rattle.rpki_der.specs.SequenceReading.{sequence_from, skipping, values_of}
unfoldable pub use Rattle.rpki_der.specs.SequenceReading.{by_tag, if_tagged, only, pair_by, pair_in, values_from}
pub use Rattle.rpki_der.specs.SequenceViews.{NotCanonicalOrMemory, ReadsOrMemory, ReadsTagged, TakesOrMemory}
pub use Rattle.rpki_der.specs.SequenceViews.{TakesSaidOrMemory}
pub use Rattle.rpki_der.specs.SequenceWriting.{octets_of_all}
pub use Rattle.rpki_der.specs.FamiliesDer.{AreInOrder, ByFamily, IsFamilies, IsFamiliesInOrder, IsMember, SaysByFamily}
pub use Rattle.rpki_der.specs.FamiliesDer.{SaysFamilies, SaysMember, SaysOption, claims_among, families_der, listed}
pub use Rattle.rpki_der.specs.FamiliesDer.{member_der, of_family, option_der}
pub use Rattle.rpki_der.specs.FamiliesReading.{SaysClaim, families_at, families_by, is_in_order, member_at, member_by}
pub use Rattle.rpki_der.specs.FamiliesReading.{none_found, seen, was_seen, with_claim}
unfoldable pub use Rattle.rpki_der.specs.FamiliesReading.{families_in, families_in_by, member_in, member_in_by}
unfoldable pub use Rattle.rpki_der.specs.FamiliesReading.{members_by}
pub use Rattle.rpki_der.specs.FamilyDer.{IsFamilyDer, SaysFamily, family_at, family_der}
unfoldable pub use Rattle.rpki_der.specs.FamilyDer.{family_of_octets}
pub use Rattle.rpki_der.specs.declared.family.AddressFamily.{AddressFamily}
pub use Rattle.rpki_der.specs.declared.family.AddressFamily.TheVariants.{Ipv4, Ipv6}
