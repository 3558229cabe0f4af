-- What the proofs of this crate use of std, of the crates below and of its own definitions, passed on by one name.
pub use Rattle.std.proofs.Common.{Contains, Err, IsTrue, List, Ok, Result, [], add-one, ap, arith, codes, decimal, drop}
pub use Rattle.std.proofs.Common.{eqb, false, get_or, inl, inr, le-ltb, length, length-drop, lit≤, lt-ltb, refl, set}
pub use Rattle.std.proofs.Common.{subst, suc, sym, take, ℕ, ◌++◌, ◌+◌, ◌-◌, ◌<◌, ◌^◌, ◌↔◌, ◌∙◌, ◌∷◌, ◌≡◌, ◌≤◌, ◌⊎◌}
pub use Rattle.std.proofs.Math.Seq.{take-append_seam, take-length}
pub use Rattle.std.proofs.lemmas.Bool.{cases_eq, cases_lt}
pub use Rattle.std.proofs.lemmas.Fmt.{decimal_is_IsNumeral, length-decimal-le}
pub use Rattle.std.proofs.lemmas.List.{drop-set, drop_more, get_or-drop, get_or-take, length-set, length-take}
pub use Rattle.std.proofs.lemmas.Str.Parse.{digit_at, digit_from_value, without_leading_plus_none}
pub use Rattle.std.specs.Int.{IsInRange}
pub use Rattle.std.specs.List.{AllByRecursion}
pub use Rattle.std.specs.List.Sorted.{IsBinarySearchResult, IsPermutation, IsSorted, IsStrictlyIncreasing}
pub use Rattle.std.specs.Str.{str_to_ascii_lowercase}
pub use Rattle.std.specs.Str.Parse.{AllDigits, digits_value}
pub use Rattle.rpki_text.specs.Numbers.{AreDigitsBetween, AreDigitsFrom, IsNumberText}
pub use Rattle.rpki_base.specs.AsnText.{IsAfterAs, IsAsAnd, IsAsnText, ReadsAsn, asn_text}
pub use Rattle.rpki_base.specs.SmallSet.{IsInBoth, IsInEither, IsInFirstAlone, IsInOne, IsSmallSet, IsSmallSetOf}
pub use Rattle.rpki_base.specs.Walks.{all_kept, any_side, kept_items, only_both, only_left, only_one, walk, walk_step}
pub use Rattle.rpki_base.specs.declared.small_set.walk.Wanted.{Wanted}
