-- What the proofs of this crate use of std, of the crates below and of its own definitions, passed on by one name.
pub use Rattle.std.proofs.Common.{Bool, Bor, Err, IsTrue, List, None, Ok, Result, Some, [], ap, append-nil}
pub use Rattle.std.proofs.Common.{append_assoc, ap₂, arith, codes, decimal, drop, drop_at, false, flat_map, get_or, inl}
pub use Rattle.std.proofs.Common.{inr, le-ltb, length, length-append, length-take-le, lit<, lit≤, lt-ltb, map, nat_lt}
pub use Rattle.std.proofs.Common.{option_map, refl, replicate, rules, subst, suc, sym, take, true, zero, ℕ, ◌%◌, ◌*◌}
pub use Rattle.std.proofs.Common.{◌++◌, ◌+◌, ◌-◌, ◌/◌, ◌<◌, ◌==◌, ◌^◌, ◌∙◌, ◌∷◌, ◌≡◌, ◌≢◌, ◌≤◌, ◌⊎◌}
pub use Rattle.std.proofs.Math.Nat.{div-div-eq-div-mul, mul-one, mul_assoc, pow-le-pow_right, pow-succ', pow-zero}
pub use Rattle.std.proofs.NetLemmas.Alphabet.{All-ipv4_text, IsDigitOrDot}
pub use Rattle.std.proofs.NetLemmas.Ipv4.{read_ipv4_complete, read_ipv4_sound}
pub use Rattle.std.proofs.NetLemmas.Ipv6.{IsDotted-not_colon_hex, read_ipv6_complete, read_ipv6_sound}
pub use Rattle.std.proofs.NetLemmas.Options.{same_parts}
pub use Rattle.std.proofs.NetLemmas.Texts.{AllSegments, AllSegments-drop, IsColonHex-ipv6_text}
pub use Rattle.std.proofs.lemmas.Bool.{cases_eq, cases_lt, cond_both, lt-leb}
pub use Rattle.std.proofs.lemmas.Bool.Decides.{nat_tests}
pub use Rattle.std.proofs.lemmas.Fmt.{decimal_is_IsNumeral}
pub use Rattle.std.proofs.lemmas.Int.Digits.{digits_value-lt, number_after_append, number_push}
pub use Rattle.std.proofs.lemmas.List.{append_cancel_left, length-replicate}
pub use Rattle.std.proofs.lemmas.List.Elements.{All-append, All-from_recursion, All-nil, All-weaker}
pub use Rattle.std.proofs.lemmas.List.Elements.{Contains-append_left, Contains-append_right}
pub use Rattle.std.proofs.lemmas.Nat.{div_below, mul-add-lt, pow-add}
pub use Rattle.std.proofs.lemmas.Option.{none-some, same_Some}
pub use Rattle.std.specs.Char.{digit_value}
pub use Rattle.std.specs.Int.{IsInRange}
pub use Rattle.std.specs.Int.Digits.{AllBelowBase, number_from_digits_after}
pub use Rattle.std.specs.List.{All, Contains}
pub use Rattle.std.specs.Net.Addr.{segments_of}
pub use Rattle.std.specs.Net.Grammar.{IsColonHex, IsDotted, IsGroupsAfter}
pub use Rattle.std.specs.Net.Reader.{Read, digit_count, read_ipv4, read_ipv4_if, read_separator, whole_value}
unfoldable pub use Rattle.std.specs.Net.Reader.{read_ipv6, read_number, read_octet, read_segment, read_segments}
pub use Rattle.std.specs.Net.Text.{dotted_text, groups_text, longest_zero_run, zero_run}
unfoldable pub use Rattle.std.specs.Net.Text.{hex, hex_groups_text}
pub use Rattle.std.specs.Str.Parse.{AllDigits, digits_value}
pub use Rattle.rpki_text.proofs.DigitLemmas.{below_power, last_digit_below, last_digits_below, length-last_digits}
pub use Rattle.rpki_text.proofs.DigitLemmas.{next_below, number-last_digits}
pub use Rattle.rpki_text.specs.Digits.{from_groups, from_octets, groups_of, octets_of}
pub use Rattle.rpki_addr.specs.ReaderResults.{numbered, with_octets}
pub use Rattle.rpki_addr.specs.AddressText.{AreGroups, AreGroupsAtEnd, IsGroupText, IsGroupsText, IsIpText, IsIpv4Text}
pub use Rattle.rpki_addr.specs.AddressText.{IsIpv6Text, dotted}
pub use Rattle.rpki_addr.specs.GroupProgress.{IsSoFar, parts}
pub use Rattle.rpki_addr.specs.PrintedAddress.{HasZeroRun, IsFirstLongestRun, IsMapped, IsPrintedIpv6, IsShortened}
pub use Rattle.rpki_addr.specs.PrintedAddress.{IsUnshortened, hex_text, ip_text, ipv4_text}
unfoldable pub use Rattle.rpki_addr.specs.PrintedAddress.{ipv6_text}
pub use Rattle.rpki_addr.specs.FromStrResults.{IsAddress, ReadsIp, ReadsIpv4, ReadsIpv6}
pub use Rattle.rpki_addr.specs.declared.addr.IpAddr.{IpAddr}
