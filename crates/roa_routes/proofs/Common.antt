-- What the proofs of this crate use of std, of the crates below and of its own definitions, passed on by one name.
pub use Rattle.roa_routes.specs.Routes.{AnnouncesNothing, AreDumpTexts, AreRouteWords, HasCommaForSpace, HasDumpFault}
pub use Rattle.roa_routes.specs.Routes.{HasFaultBy, HasLineFault, HasReadFault, HasRouteFault, HasRouteTextFault}
pub use Rattle.roa_routes.specs.Routes.{HasWordFault, HaveWordsFault, IsAsnOrigin, IsDumpRoute, IsFieldAt, IsLineOf}
pub use Rattle.roa_routes.specs.Routes.{IsNoAsnText, IsNoDump, IsNoFieldAt, IsOtherWord, IsPathPlace, IsReadLine}
pub use Rattle.roa_routes.specs.Routes.{IsReadOf, IsRouteBy, IsRouteLine, IsRouteText, IsTableName, IsUpdate}
pub use Rattle.roa_routes.specs.Routes.{IsUpdateName, IsWordOrigin, IsWordsFault, fields_of, is_bar, last_word}
pub use Rattle.roa_routes.specs.Routes.{origin_word, prefix_word}
pub use Rattle.rpki_base.specs.AsnText.{IsAsnText}
pub use Rattle.rpki_prefix.specs.PrefixText.{IsPrefixText}
pub use Rattle.rpki_prefix.specs.Values.{FamilyPrefix, IsPrefixOf}
pub use Rattle.rpki_text.specs.Cuts.{is_comma, is_space}
pub use Rattle.std.proofs.Common.{Err, List, MatchResult, None, Ok, Option, Result, Some, ap, append-nil, append_assoc}
pub use Rattle.std.proofs.Common.{arith, codes, drop, eq-eqb, get_or, get_or-drop, inl, inr, length, length-drop, lit<}
pub use Rattle.std.proofs.Common.{lit≤, ne_eqb, not, refl, sym, ℕ, [], ◌++◌, ◌+◌, ◌-◌, ◌<◌, ◌∙◌, ◌∷◌, ◌≡◌, ◌≢◌, ◌≤◌}
pub use Rattle.std.proofs.Common.{◌⊎◌}
pub use Rattle.std.proofs.lemmas.Bool.{cases_lt, eqb-true}
pub use Rattle.std.proofs.lemmas.List.{drop_all, drop_at, get_or-append-add, get_or_append_left, length-append}
pub use Rattle.std.proofs.lemmas.List.{length_push, nil_from_length, take_all, take_at}
pub use Rattle.std.proofs.lemmas.List.Sums.{fails_before_first, position_or_len_is, prefix_len-le-length, suffix_len_is}
pub use Rattle.std.proofs.lemmas.Str.{IsUtf8-from_ascii, len_utf8_ascii}
pub use Rattle.std.specs.List.{All, after_first, after_last, before_first, list_any, position_or_len, suffix_len}
pub use Rattle.std.specs.Prelude.{IsTrue, false, is_ok, slice_get, ◌==◌, ◌↔◌}
pub use Rattle.std.specs.Str.{IsUtf8, trim}
