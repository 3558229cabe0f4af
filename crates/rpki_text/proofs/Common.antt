-- What the proofs of this crate use of std, of the crates below and of its own definitions, passed on by one name.
pub use Rattle.std.proofs.Common.{Bool, Err, List, MatchResult, None, Ok, Option, Result, Some, [], add-one, ap, arith}
pub use Rattle.std.proofs.Common.{codes, cond, decimal, drop, eqb, false, get_or, length, length-append, length-drop}
pub use Rattle.std.proofs.Common.{lit<, map, refl, subst, suc, sym, take, true, zero, ℕ, ◌%◌, ◌&&◌, ◌*◌, ◌++◌, ◌+◌, ◌-◌}
pub use Rattle.std.proofs.Common.{◌/◌, ◌<◌, ◌^◌, ◌∙◌, ◌∷◌, ◌≡◌, ◌≢◌, ◌≤◌, ◌⊎◌}
pub use Rattle.std.proofs.Math.Nat.{div-add-mod, mul_comm, pow-le-pow_right, pow-suc, pow-succ', pow-zero}
pub use Rattle.std.proofs.Math.Seq.{get_or-append-add}
pub use Rattle.std.proofs.lemmas.Bool.{cases_lt, eqb-false, false_from_ne_true, le-ltb, lt-ltb}
pub use Rattle.std.proofs.lemmas.Bool.Decides.{nat_tests}
pub use Rattle.std.proofs.lemmas.Int.Digits.{digits_value-lt, digits_value_more, number_push}
pub use Rattle.std.proofs.lemmas.List.{append-nil, get_or-drop, length-take, map-append, take-append-drop, take_all}
pub use Rattle.std.proofs.lemmas.List.{take_more}
pub use Rattle.std.proofs.lemmas.List.Elements.{All-from_recursion}
pub use Rattle.std.proofs.lemmas.List.Splits.{slice_split_at, slice_split_none}
pub use Rattle.std.proofs.lemmas.Str.{char_from_byte, chars-encodes, digit_value_digit, inside_one, len_utf8_bounds}
pub use Rattle.std.proofs.lemmas.Str.{length-encode}
pub use Rattle.std.proofs.lemmas.Str.Parse.{digit_at, digit_from_value, without_leading_plus_none}
pub use Rattle.std.specs.Char.{digit_value, encode_utf8, is_whitespace}
pub use Rattle.std.specs.Int.{IsInRange}
pub use Rattle.std.specs.List.{AllByRecursion, flat_map, position, slice_split}
pub use Rattle.std.specs.Str.{IsUtf8, chars, drop_trailing_whitespace, encode_utf8_all, skip_leading_whitespace, trim}
unfoldable pub use Rattle.std.specs.Str.{trim_end, trim_start}
pub use Rattle.std.specs.Str.Parse.{AllDigits, digits_value, without_leading_plus}
pub use Rattle.rpki_text.specs.Lists.{HasFirstFault, HaveValues, comma, joined, kept}
unfoldable pub use Rattle.rpki_text.specs.Lists.{elements}
pub use Rattle.rpki_text.specs.Numbers.{AreDigitsBetween, DigitsFail, HasNumberFault, IsNumberText, IsValueUpTo}
pub use Rattle.rpki_text.specs.Numbers.{PassesLimit, StopsBelow}
pub use Rattle.rpki_text.specs.Reading.{Answers, AnswersOrMemory}
