-- What the proofs of this crate use of std, of the crates below and of its own definitions, passed on by one name.
pub use Rattle.std.proofs.Common.{Bool, Err, List, MatchResult, None, Ok, Option, Result, Some, [], ap, append-nil}
pub use Rattle.std.proofs.Common.{arith, bit_and, bit_or, decimal, eqb, false, inl, inr, length, lit<, refl, rules}
pub use Rattle.std.proofs.Common.{subst, sym, true, ℕ, ◌&&◌, ◌++◌, ◌+◌, ◌-◌, ◌<◌, ◌^◌, ◌↔◌, ◌∙◌, ◌≡◌, ◌≤◌}
pub use Rattle.std.proofs.lemmas.Bool.{eqb-false, le-leb, leb-true}
pub use Rattle.std.proofs.lemmas.Result.{err_from_is_err_and}
pub use Rattle.std.proofs.lemmas.Str.Pattern.{split_parts}
pub use Rattle.std.specs.Ordering.{is_lt}
pub use Rattle.std.specs.declared.cmp.Ordering.TheVariants.{Equal}
pub use Rattle.rpki_addr.proofs.AddressBytes.{ip_bytes, no_slash, not_dash}
pub use Rattle.rpki_addr.specs.declared.addr.IpAddr.{IpAddr}
pub use Rattle.rpki_addr.specs.declared.addr.IpAddr.TheVariants.{V4, V6}
pub use Rattle.rpki_cover.proofs.BitMasks.{clear_host, host_ones, set_host}
pub use Rattle.rpki_text.proofs.CutLemmas.{around_at, none_around}
pub use Rattle.rpki_text.proofs.NumberTexts.{IsNumberText-decimal, IsNumberText-one}
pub use Rattle.rpki_text.proofs.ReadingLemmas.{Answers-from_found}
pub use Rattle.rpki_text.specs.Cuts.{Around, HasNo, dash, slash}
pub use Rattle.rpki_text.specs.Numbers.{HasNumberFault, IsNumberText}
pub use Rattle.rpki_prefix.specs.MaxLen.{ArePrefixAndMax, HasMaxLen, HasMaxLenError, HasMaxLenTextFault, IsMaxLenOf}
pub use Rattle.rpki_prefix.specs.MaxLen.{IsMaxLenText, IsMaxLenTextOf, MaxLenValue, ReadsMaxLen, max_len_cmp, max_text}
pub use Rattle.rpki_prefix.specs.Nesting.{LiesRound}
pub use Rattle.rpki_prefix.specs.Order.{last_bits, prefix_cmp}
pub use Rattle.rpki_prefix.specs.PrefixText.{HasNoParts, HasParts, HasPrefixTextFault, HasRelaxedPrefixTextFault}
pub use Rattle.rpki_prefix.specs.PrefixText.{HasTextFaultBy, IsPrefixText, IsRelaxedPrefixText, IsTextBy, ReadsPrefix}
pub use Rattle.rpki_prefix.specs.PrefixText.{prefix_text}
pub use Rattle.rpki_prefix.specs.Values.{CoversPrefix, FamilyPrefix, HasPrefixError, HasRelaxedPrefixError}
pub use Rattle.rpki_prefix.specs.Values.{IsFamilyPrefix, IsPrefixOf, IsRelaxedPrefixOf, address_number, cleared_addr}
pub use Rattle.rpki_prefix.specs.Values.{last_addr, width}
pub use Rattle.rpki_prefix.specs.declared.error.ParsePrefixError.{ParsePrefixError}
