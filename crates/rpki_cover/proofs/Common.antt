-- What the proofs of this crate use of std, of the crates below and of its own definitions, passed on by one name.
pub use Rattle.std.proofs.Common.{Bool, List, MatchOption, Option, [], ap, arith, bit_and, bit_or, false, inl, inr, leb}
pub use Rattle.std.proofs.Common.{length, map, min, refl, subst, suc, true, zero, ℕ, ◌%◌, ◌*◌, ◌++◌, ◌+◌, ◌-◌, ◌/◌, ◌<◌}
pub use Rattle.std.proofs.Common.{◌^◌, ◌∙◌, ◌∷◌, ◌≡◌, ◌≤◌, ◌⊎◌}
pub use Rattle.std.proofs.Math.Nat.{mul-le-mul_right, mul-mod_left, mul-sub, pow-le-pow_right, two-pow-succ}
pub use Rattle.std.proofs.Math.Pow.{pow_mono}
pub use Rattle.std.proofs.lemmas.Bool.{cases_Bool, cases_eq, cases_lt, cases_order, le-leb, lt-leb}
pub use Rattle.std.proofs.lemmas.List.Elements.{All-append, All-cons, All-contains, All-tail, Contains-get_or}
pub use Rattle.std.proofs.lemmas.Nat.{and_mask, mod_below, pow-add, pow_below, pow_pos, shr_split}
unfoldable pub use Rattle.std.specs.Int.Count.{count_trailing_zeros}
pub use Rattle.std.specs.List.{All, Contains, filter}
pub use Rattle.rpki_cover.specs.Covers.{Ascends, HasUnion, IsCoverList, IsShortest, IsShortestCover, widened}
pub use Rattle.rpki_cover.specs.Prefixes.{IsIn, IsMaximal, IsParent, IsPrefix, LiesIn, PrefixValue}
pub use Rattle.rpki_cover.specs.Walk.{cover_list_upto, free_bits_upto, left_cover}
unfoldable pub use Rattle.rpki_cover.specs.Walk.{cover_list, free_bits}
