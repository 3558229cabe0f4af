-- What the proofs of this crate use of std, of the crates below and of its own definitions, passed on by one name.
pub use Rattle.std.proofs.Common.{Bool, IsTrue, List, MatchOption, MatchResult, None, Ok, Err, Option, Result, Some, []}
pub use Rattle.std.proofs.Common.{ap, arith, false, inl, inr, length, get_or, not, refl, suc, sym, take, true, zero, ℕ}
pub use Rattle.std.proofs.Common.{◌++◌, ◌+◌, ◌-◌, ◌^◌, ◌<◌, ◌∙◌, ◌∷◌, ◌≡◌, ◌≢◌, ◌≤◌, ◌↔◌, ◌⊎◌}
pub use Rattle.std.proofs.lemmas.List.{take_more}
pub use Rattle.std.specs.Borrow.{Bor}
pub use Rattle.std.specs.Prelude.{Any}
pub use Rattle.json.specs.Json.{Items, Json, Members, array, item, no_items, number, object, string}
pub use Rattle.json.specs.Value.{items_view, members_view, value_view}
pub use Rattle.json.specs.declared.value.Value.{Value}
pub use Rattle.rpki_prefix.specs.MaxLen.{MaxLenValue}
pub use Rattle.rpki_prefix.specs.Values.{CoversPrefix, FamilyPrefix, address_number, is_v6}
pub use Rattle.roa_slurm.specs.Applied.{IsApplied, IsRemoved, IsRemovedBy}
pub use Rattle.roa_slurm.specs.Entries.{HaveAssertionFault, HaveKeyFault, HaveKeyFilterFault}
pub use Rattle.roa_slurm.specs.Lists.{AreEntries, HaveInvalid}
pub use Rattle.roa_slurm.specs.Objects.{Defines, HasUnknown, HasValue, IsString, KnowsAll, Lacks}
pub use Rattle.roa_slurm.specs.Parts.{GivesAsn, HasAsnMemberFault, HasLongest, HasLongestFault, HasOptionalFault}
pub use Rattle.roa_slurm.specs.Parts.{HasOptionalText, GivesPrefix, HasPrefixMemberFault, HasRequiredText}
pub use Rattle.roa_slurm.specs.Parts.{HasRequiredTextFault, IsMissing}
pub use Rattle.roa_slurm.specs.declared.fault.SlurmFault.{SlurmFault}
pub use Rattle.roa_slurm.specs.declared.fault.SlurmItemFault.{SlurmItemFault}
pub use Rattle.roa_slurm.specs.declared.filter.PrefixFilter.{PrefixFilter}
pub use Rattle.roa_slurm.specs.declared.filter.PrefixFilter.TheVariants.{ByAsn, ByBoth, ByPrefix}
pub use Rattle.roa_slurm.specs.declared.member.SlurmMember.{SlurmMember}
pub use Rattle.roa_slurm.specs.declared.member.SlurmMember.TheVariants.{Asn, Comment, Prefix, RouterPublicKey, Ski}
pub use Rattle.roa_slurm.specs.declared.object.SlurmObject.{SlurmObject}
