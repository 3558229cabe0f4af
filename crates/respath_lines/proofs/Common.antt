-- What the proofs of this crate use of std, of the crates below and of its own definitions, passed on by one name.
pub use Rattle.std.proofs.Common.{Err, List, MatchResult, Ok, Result, [], ap, arith, codes, decimal, drop, eqb, false}
pub use Rattle.std.proofs.Common.{get_or, inl, inr, length, lit<, map, refl, subst, suc, sym, take, zero, ℕ, ◌%◌, ◌++◌}
pub use Rattle.std.proofs.Common.{◌+◌, ◌-◌, ◌/◌, ◌<◌, ◌==◌, ◌∙◌, ◌∷◌, ◌≡◌, ◌≢◌, ◌≤◌, ◌⊎◌, Some}
pub use Rattle.std.proofs.lemmas.Bool.{ne_eqb}
pub use Rattle.std.proofs.lemmas.List.{append-nil, flat_map_more, length-append, map-append}
pub use Rattle.std.proofs.lemmas.Result.{err_from_is_err_and, on_ok_weaker}
pub use Rattle.std.specs.Iterator.{Drains, YieldsFirst}
pub use Rattle.std.specs.List.{All, after_first, before_first, flat_map, position_or_len}
pub use Rattle.std.specs.String.{string_bytes}
pub use Rattle.hex.specs.Hex.{IsBytes}
pub use Rattle.rpki_as.specs.AsDer.{IsAsResources}
pub use Rattle.rpki_as.specs.AsDerReading.{as_choice_at}
pub use Rattle.rpki_as.specs.ListText.{as_list_text, HasAsListFault, IsAsListText}
pub use Rattle.rpki_as_block.specs.Faults.{as_from_str_error_text}
pub use Rattle.rpki_der.specs.declared.family.AddressFamily.{AddressFamily}
pub use Rattle.rpki_chain.specs.Claims.{Claim, claim_of}
pub use Rattle.rpki_chain.specs.Runs.{Holds, IsRunsOfBlocks, Runs}
pub use Rattle.rpki_der.specs.Faults.{fault_text}
pub use Rattle.rpki_ip.specs.Faults.{ip_from_str_error_text}
pub use Rattle.rpki_ip.specs.declared.error.FromStrError.{FromStrError}
pub use Rattle.rpki_ip_block.specs.ListText.{HasBlocks, HasBlocksFault}
pub use Rattle.rpki_ipres.specs.ResourcesDer.{IsIpFamilies, SaysClaims, ip_families_at}
pub use Rattle.rpki_ipres.specs.SetText.{IsSetOf, overclaimed_ip_text, set_text}
pub use Rattle.rpki_text.specs.Lists.{HasFirstFault, HaveValues}
pub use Rattle.rpki_text.specs.Memory.{IfRefused}
pub use Rattle.rpki_text.specs.Reading.{AnswersOrMemory}
pub use Rattle.rpki_text.specs.declared.memory.OrMemory.{OrMemory}
pub use Rattle.rpki_text.specs.declared.memory.OrMemory.TheVariants.{Memory, Refused}
pub use Rattle.respath_lines.specs.Cover.{cover_text, listed_text, prefix_with_length, IsCoverOf}
pub use Rattle.respath_lines.specs.Path.{ArePath, HasRootFault, HasStepFault, HavePathFault, IsStepText, ShowsLeft}
pub use Rattle.respath_lines.specs.Path.{ShowsPath, list_of, parts_of}
pub use Rattle.respath_lines.specs.Read.{HasFault, IsEnded, ShowsHexadecimal, ShowsOctets, family_text}
pub use Rattle.respath_lines.specs.Shown.{ShowsResult, error_line}
pub use Rattle.respath_lines.specs.Der.{HasIpResourcesFault, IsIpResourcesText}
pub use Rattle.respath_lines.specs.declared.steps.PartFault.{PartFault}
pub use Rattle.rpki_as.proofs.AsResourcesDer.{one_resources}
pub use Rattle.rpki_as.specs.Faults.{overclaimed_as_text}
pub use Rattle.rpki_as.specs.ResourcesText.{HasAsResourcesFault, IsAsResourcesText, as_resources_text}
pub use Rattle.rpki_chain.specs.Paths.{IsFirstRefusal, IsPathResult}
pub use Rattle.rpki_chain.specs.declared.path.PathRefusal.{PathRefusal}
pub use Rattle.rpki_chain.specs.declared.path.Step.{Step}
pub use Rattle.rpki_cover.specs.Covers.{IsShortestCover}
pub use Rattle.rpki_cover.specs.Prefixes.{PrefixValue}
pub use Rattle.rpki_der.specs.Der.{OneFront}
pub use Rattle.rpki_der.specs.FamiliesDer.{of_family}
pub use Rattle.rpki_der.specs.declared.error.DerError.{DerError}
pub use Rattle.rpki_ipres.proofs.IpResourcesWritten.{one_of_families}
pub use Rattle.rpki_text.specs.Cuts.{is_space}
pub use Rattle.std.proofs.lemmas.Bool.Decides.{nat_tests}
pub use Rattle.std.specs.Str.{IsUtf8}
unfoldable pub use Rattle.respath_lines.specs.Hexadecimal.{IsHexadecimal, lower_hexadecimal}
