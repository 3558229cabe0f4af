-- What the proofs of this crate use of std, of the crates below and of its own definitions, passed on by one name.
pub use Rattle.std.proofs.Common.{All, Bool, IfSome, IsTrue, List, MatchOption, None, Option, Some, [], add-one, ap}
pub use Rattle.std.proofs.Common.{arith, drop, get_or, if◌then◌else◌, inl, inr, is_some, length, map, max, not, refl}
pub use Rattle.std.proofs.Common.{rules, subst, suc, sym, take, true, zero, ℕ, ⊎_elim, ◌*◌, ◌++◌, ◌+◌, ◌-◌, ◌<◌, ◌^◌}
pub use Rattle.std.proofs.Common.{◌↔◌, ◌∙◌, ◌∷◌, ◌≡◌, ◌≤◌, ◌⊎◌}
pub use Rattle.std.proofs.Math.Nat.{le_refl, mul-le-mul_right, pow-le-pow_right, two-pow-succ}
pub use Rattle.std.proofs.lemmas.Bool.{cases_lt, lt-ltb, ltb-true}
pub use Rattle.std.proofs.lemmas.Bool.Decides.{nat_tests}
pub use Rattle.std.proofs.lemmas.List.{drop_all, drop_more, get_or-map, get_or-set_other, get_or-take}
pub use Rattle.std.proofs.lemmas.List.{get_or_append_left, get_or_default, get_or_push, length-append, length-map}
pub use Rattle.std.proofs.lemmas.List.{length-set, length-take-le, length_push, map-append, take_all, take_more}
pub use Rattle.std.proofs.lemmas.List.{take_more_set}
pub use Rattle.std.proofs.lemmas.List.Elements.{All-push, All-tail, All-take}
pub use Rattle.std.proofs.lemmas.List.Sorted.{Contains-permutation, IsNonDecreasingBy-from_sort_by}
pub use Rattle.std.proofs.lemmas.List.Sorted.{IsPermutation-remove, IsPermutation-sym, length_permutation}
pub use Rattle.std.proofs.lemmas.Nat.{mul-le}
pub use Rattle.std.specs.List.Sorted.{IsNonDecreasingBy, IsPermutation}
pub use Rattle.std.specs.Option.{option_copied, option_map}
pub use Rattle.rpki_chain_core.specs.Fit.{IsFitIn}
pub use Rattle.rpki_chain_core.specs.Joining.{IsBehind, IsInChainOrRun}
pub use Rattle.rpki_chain_core.specs.Overhang.{Before, IsOverhang}
pub use Rattle.rpki_chain_core.specs.Sets.{Covers, HoldsBlock, IsChain, IsChainOf, IsInside, IsNew, IsOfKind, IsRun}
pub use Rattle.rpki_chain_core.specs.Sets.{IsRunFrom, IsWithin, numbers}
pub use Rattle.rpki_chain_core.specs.declared.overhang.Overhang.{Overhang}
