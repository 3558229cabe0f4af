-- What the proofs of this crate use of std, of the crates below and of its own definitions, passed on by one name.
pub use Rattle.json.proofs.Grammar.{items_end, items_fail, items_more, left, left_none, left_some, members_end}
pub use Rattle.json.proofs.Grammar.{members_fail, members_more, members_no_key, read_key-shorter, skip_member}
pub use Rattle.json.proofs.Grammar.{value-begin_array, value-begin_object, value_is}
pub use Rattle.json.specs.Json.{Items, Json, Members, Parse, array, document, item, items, member, members, no_items}
pub use Rattle.json.specs.Json.{no_members, object, parse_map, read_key, value}
pub use Rattle.json.specs.Reads.{skip_members, token_of}
pub use Rattle.json.specs.Token.{Token}
pub use Rattle.json.specs.Value.{members_view, value_view}
pub use Rattle.roa_vrps.specs.Columns.{IsColumn, IsExpiresColumn, IsHeader, IsNeeded, Names, after_commas, field}
pub use Rattle.roa_vrps.specs.Columns.{field_count, unquoted, usual}
pub use Rattle.roa_vrps.specs.Entries.{AreExpiries, AreRead, Entry, HasEntryFault, HasExpiresFault, HasExpiry}
pub use Rattle.roa_vrps.specs.Entries.{HasLineExpiryFault, HaveWrongExpiry, IsFoundIn, IsItemExpiry, IsLineExpiry}
pub use Rattle.roa_vrps.specs.Entries.{IsTimeText, item_entry, line_entry, vrp_of, vrps_of}
pub use Rattle.roa_vrps.specs.ExpiryFiles.{AreDated, HasExpiryFault, IsUnexpiredFile, unexpired_of, unexpired_value}
pub use Rattle.roa_vrps.specs.Files.{AreFileEntries, AreTextEntries, HasFileFault, HasTextFault, IsCsvText}
pub use Rattle.roa_vrps.specs.Files.{IsObjectText, IsVrpFile, MayTextWantMemory, MayWantMemory}
pub use Rattle.roa_vrps.specs.JsonFiles.{AreItems, AreItemsRead, AreJsonEntries, AreNoArray, HasItemFault, HasJsonFault}
pub use Rattle.roa_vrps.specs.JsonFiles.{HasTexts, HaveRoasFault, HaveWrongItem, IsItem, IsJsonObject, IsNoObject}
pub use Rattle.roa_vrps.specs.JsonFiles.{IsOneArray, IsRoasResult, list_of, roas}
pub use Rattle.roa_vrps.specs.Members.{AreWrong, HasMemberFault, HasText, IsFound, values_in}
pub use Rattle.roa_vrps.specs.Rows.{AreFieldTexts, ArePairTexts, AreVrpTexts, FitsColumns, HasCountFault, HasRowFault}
pub use Rattle.roa_vrps.specs.Rows.{HaveColumnsFault, HaveFault, HaveFieldsFault, IsBody, IsRow, IsUnknownHeader}
pub use Rattle.roa_vrps.specs.Rows.{WritesPrefix}
pub use Rattle.roa_vrps.specs.declared.columns.Columns.{Columns}
pub use Rattle.roa_vrps.specs.declared.fault.ExpiryFault.{ExpiryFault}
pub use Rattle.roa_vrps.specs.declared.fault.FileFault.{FileFault}
pub use Rattle.roa_vrps.specs.declared.fault.FileFault.TheVariants.{Item, JsonArray, Line, NoVrp, Roas}
pub use Rattle.roa_vrps.specs.declared.fault.MemberFault.{MemberFault}
pub use Rattle.roa_vrps.specs.declared.fault.MemberFault.TheVariants.{Kind, Missing, Repeated}
pub use Rattle.roa_vrps.specs.declared.fault.VrpFault.{VrpFault}
pub use Rattle.roa_vrps.specs.declared.found.Found.{Found}
pub use Rattle.roa_vrps.specs.declared.row.Row.{Row}
pub use Rattle.roa_vrps.specs.declared.row.Row.TheVariants.{Blank, Header}
pub use Rattle.rpki_base.proofs.AsnLemmas.{IsAsnText-one, digits_are_bytes}
pub use Rattle.rpki_prefix.specs.MaxLen.{HasMaxLenError, IsMaxLenOf, MaxLenValue}
pub use Rattle.rpki_text.proofs.NumberTexts.{IsNumberText-one}
pub use Rattle.rpki_text.proofs.PrintedListLemmas.{trim_shown}
pub use Rattle.rpki_text.specs.Cuts.{is_comma, slash}
pub use Rattle.rpki_text.specs.Memory.{MatchOrMemory}
pub use Rattle.rpki_text.specs.declared.memory.OrMemory.{OrMemory}
pub use Rattle.rpki_text.specs.declared.memory.OrMemory.TheVariants.{Memory, Refused}
pub use Rattle.std.proofs.Common.{Err, IfOk, IfSome, IsTrue, List, MatchResult, None, Ok, Option, Result, Some, Vec, ap}
pub use Rattle.std.proofs.Common.{append-nil, append_assoc, arith, cond, drop, false, get_or, if◌then◌else◌, inl, inr}
pub use Rattle.std.proofs.Common.{length, length-drop, lit≤, not, refl, suc, sym, take, true, zero, ℕ, [], ◌++◌, ◌+◌}
pub use Rattle.std.proofs.Common.{◌-◌, ◌<◌, ◌^◌, ◌↔◌, ◌∙◌, ◌∷◌, ◌≡◌, ◌≢◌, ◌≤◌, ◌⊎◌}
pub use Rattle.std.proofs.lemmas.Bool.{eqb-false, eqb-true}
pub use Rattle.std.proofs.lemmas.List.{drop_at, get_or-take, length-append, length-map, length-take, length_push}
pub use Rattle.std.proofs.lemmas.List.{map-append, nil_from_length, take-append-drop, take_at, take_more, take_rest}
pub use Rattle.std.proofs.lemmas.List.Sums.{count_by-le-length, fails_before_first, sum_by-append, sum_by-cons}
pub use Rattle.std.specs.Int.{IsInRange}
pub use Rattle.std.specs.List.{All, AllByRecursion, after_first, before_first, count_by, position_or_len}
pub use Rattle.std.specs.Prelude.{Bool}
pub use Rattle.std.specs.Str.{IsUtf8, bytes_eq, trim}
pub use Rattle.std.specs.Str.Parse.{AllDigits, IsNumeral, digits_value, without_leading_plus}
pub use denote.Shadow.{shadow}
pub use denote.Text.{Utf8}
