-- What the proofs of this crate use of std, of the crates below and of its own definitions, passed on by one name.
pub use Rattle.std.proofs.Common.{All, AllPairs, Any, Bool, Contains, IsTrue, List, None, Option, [], ap, append_assoc}
pub use Rattle.std.proofs.Common.{arith, drop, false, get_or, inl, inr, leb, length, length-append, length-drop, lit≤}
pub use Rattle.std.proofs.Common.{ltb, map, refl, reverse, rules, slice_index, slice_index_or, subst, suc, sym, take}
pub use Rattle.std.proofs.Common.{true, zero, ℕ, ◌&&◌, ◌*◌, ◌++◌, ◌+◌, ◌-◌, ◌/◌, ◌<◌, ◌==◌, ◌^◌, ◌↔◌, ◌∙◌, ◌∷◌, ◌≡◌}
pub use Rattle.std.proofs.Common.{◌≢◌, ◌≤◌, ◌⊎◌}
pub use Rattle.std.proofs.Math.Seq.{take-suc}
pub use Rattle.std.proofs.lemmas.Bool.{and_parts, cases_lt, cases_order, eq-eqb, eqb-true, le-leb, leb-false, leb-true}
pub use Rattle.std.proofs.lemmas.Bool.{ltb-false, ltb-true}
pub use Rattle.std.proofs.lemmas.Grind.{common_steps}
pub use Rattle.std.proofs.lemmas.List.{append-nil, get_or-drop, get_or-map, get_or-take, get_or_append_left}
pub use Rattle.std.proofs.lemmas.List.{get_or_default, get_or_push, length-map, length-take, length-take-le}
pub use Rattle.std.proofs.lemmas.List.{length_push, map-append, reverse-append, reverse-reverse, take_all, take_more}
pub use Rattle.std.proofs.lemmas.List.Elements.{All-append, All-contains, All-drop, All-filter, All-head, All-map}
pub use Rattle.std.proofs.lemmas.List.Elements.{All-push, All-tail, All-take, Contains-append_cases}
pub use Rattle.std.proofs.lemmas.List.Elements.{Contains-append_left, Contains-append_right, Contains-get_or}
pub use Rattle.std.proofs.lemmas.List.Elements.{Contains-push, Contains-push_cases, filter_more, filter_passes}
pub use Rattle.std.proofs.lemmas.List.Kept.{AllPairs-cons, Contains-dedup, Contains-from_dedup}
pub use Rattle.std.proofs.lemmas.List.Kept.{IsNonDecreasingBy-filter, IsStrictlySortedBy-dedup}
pub use Rattle.std.proofs.lemmas.List.Quantifiers.{all_pairs_push}
pub use Rattle.std.proofs.lemmas.List.Sorted.{All-permutation, Contains-permutation, IsNonDecreasingBy-drop}
pub use Rattle.std.proofs.lemmas.List.Sorted.{IsNonDecreasingBy-from_sort_by, IsNonDecreasingBy-push}
pub use Rattle.std.proofs.lemmas.List.Sorted.{IsNonDecreasingBy-take, IsPartitionPoint-from_clause, IsPartitionedBy-leb}
pub use Rattle.std.proofs.lemmas.List.Sorted.{IsPartitionedBy-ltb, IsPermutation-append_left}
pub use Rattle.std.proofs.lemmas.List.Sorted.{IsPermutation-append_right, IsPermutation-map, IsPermutation-middle}
pub use Rattle.std.proofs.lemmas.List.Sorted.{IsPermutation-push_more, IsPermutation-refl, IsPermutation-sym}
pub use Rattle.std.proofs.lemmas.List.Sorted.{IsPermutation-trans}
pub use Rattle.std.proofs.lemmas.Nat.{le-div, pow_below, pow_pos, shr_below}
pub use Rattle.std.specs.Cmp.{IsEquivalence, IsTotalOrder}
pub use Rattle.std.specs.Fn.{Mut}
pub use Rattle.std.specs.List.{filter, slice_range}
pub use Rattle.std.specs.List.Sorted.{IsNonDecreasingBy, IsPartitionPoint, IsPartitionedBy, IsPermutation, IsSorted}
pub use Rattle.std.specs.Ordering.{bool_cmp, eq_by_cmp, nat_cmp, ordering_reverse, ordering_then}
pub use Rattle.std.specs.declared.cmp.Ordering.{Ordering}
pub use Rattle.std.specs.declared.cmp.Ordering.TheVariants.{Equal, Greater, Less}
pub use denote.Ref.{Bor}
pub use Rattle.rpki_addr.specs.declared.addr.IpAddr.{IpAddr}
pub use Rattle.rpki_addr.specs.declared.addr.IpAddr.TheVariants.{V4}
pub use Rattle.rpki_cover.specs.Prefixes.{IsPrefix, PrefixValue}
pub use Rattle.rpki_prefix.proofs.PrefixCovering.{covers_round, round_covers}
pub use Rattle.rpki_prefix.specs.MaxLen.{MaxLenValue, max_len_cmp}
pub use Rattle.rpki_prefix.specs.Values.{CoversPrefix, FamilyPrefix, IsFamilyPrefix, address_number, interval, is_v6}
pub use Rattle.rpki_prefix.specs.Values.{width}
pub use Rattle.roa_origin.specs.Coverings.{AreThose, IsCoveringWalk, IsWalk, covering_before, covers_route}
pub use Rattle.roa_origin.specs.PackedVrps.{addr_of}
pub use Rattle.roa_origin.specs.Links.{AreLater, AreLinks, AreUpTo, IsGroup, IsInOrder, IsLastOf, IsLink, NoneCovers}
pub use Rattle.roa_origin.specs.Vrps.{CoversRoute, HasAs, IsLawfulVrp, Matches, Vrp, longest, prefix_len}
pub use Rattle.roa_origin.specs.Places.{family_place, vrp_place, place, rank, sent_place, table_place, max_len_flag}
pub use Rattle.roa_origin.specs.Starts.{IsStart, first_bits}
pub use Rattle.roa_origin.specs.Tables.{as_sent, vrp_cmp}
pub use Rattle.roa_origin.specs.Updates.{AreChangesOf, AreSorted, IsDuplicateAnnouncement, IsFirstPlace, IsLawfulChange}
pub use Rattle.roa_origin.specs.Updates.{IsMergedOf, IsOf, IsOfBefore, IsSearched, IsSentIn, IsUnknownWithdrawal}
pub use Rattle.roa_origin.specs.Updates.{IsUpdated, change_place, sent_change}
pub use Rattle.roa_origin.specs.Validities.{HasCoveringAsn, IsMatched, IsRouteCovered, IsValidity}
pub use Rattle.roa_origin.specs.declared.links.Link.{Link}
pub use Rattle.roa_origin.specs.declared.updates.Change.{Change}
pub use Rattle.roa_origin.specs.declared.validation.Validity.{Validity}
pub use Rattle.roa_origin.specs.declared.validation.Validity.TheVariants.{Invalid, NotFound, Valid}
