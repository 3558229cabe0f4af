-- What the proofs of this crate use of std, of the crates below and of its own definitions, passed on by one name.
pub use Rattle.std.proofs.Common.{◌&&◌, Bool, Err, List, None, Ok, Option, Result, Some, [], ap, append_assoc, arith}
pub use Rattle.std.proofs.Common.{false, get_or, inl, inr, length, map, refl, reverse, rules, subst, sym, true, ℕ, ◌++◌}
pub use Rattle.std.proofs.Common.{◌+◌, ◌<◌, ◌↔◌, ◌∙◌, ◌∷◌, ◌≡◌, ◌≢◌, ◌≤◌, ◌⊎◌}
pub use Rattle.std.proofs.lemmas.List.{append-nil, length-append, map-append}
pub use Rattle.std.proofs.lemmas.List.Sorted.{Contains-permutation, IsPermutation-map, IsPermutation-reverse}
pub use Rattle.std.proofs.lemmas.List.Sorted.{IsPermutation-sym}
pub use Rattle.std.specs.List.{AllPairs, Contains}
pub use Rattle.std.specs.List.Sorted.{IsNonDecreasingBy, IsPermutation}
pub use Rattle.std.specs.Prelude.{IfErr, IsTrue, OnOk}
pub use Rattle.std.specs.Str.{IsUtf8}
pub use Rattle.std.specs.String.{string_bytes}
pub use Rattle.std.proofs.lemmas.Grind.{common_steps}
pub use Rattle.lines_engine.specs.Run.{HasAnswered, HasWritten, IsStreamRun}
pub use Rattle.roa_origin.specs.Coverings.{AreThose}
pub use Rattle.roa_origin.specs.Tables.{as_sent}
pub use Rattle.roa_origin.specs.Vrps.{CoversRoute, IsLawfulVrp, Vrp, prefix_len}
pub use Rattle.rpki_prefix.specs.Values.{FamilyPrefix, IsFamilyPrefix}
pub use Rattle.origins_lines.specs.Answers.{IsAnswerIn, IsExplanationIf, IsFaultAnswer, IsLineValue, IsRouteAnswer}
pub use Rattle.origins_lines.specs.Answers.{skipped_text}
pub use Rattle.origins_lines.specs.Begun.{IsBegun}
pub use Rattle.origins_lines.specs.Checks.{HasFound, IsFaultInitial}
pub use Rattle.origins_lines.specs.Explanations.{AreReasonTexts, IsExplainedBefore, IsExplanation, IsExplanationText}
pub use Rattle.origins_lines.specs.Explanations.{IsNextText, IsReason, is_first, item_text}
pub use Rattle.roa_routes.specs.Routes.{IsRouteLine, IsSkippedLine}
pub use Rattle.origins_lines.specs.Outcomes.{IsOutcomeOf, asked_asn}
pub use Rattle.origins_lines.specs.Runs.{IsFlushed, IsWritten, vrp_line, vrp_lines}
pub use Rattle.origins_lines.specs.declared.begun.AskedRoute.{AskedRoute}
pub use Rattle.origins_lines.specs.declared.begun.BegunRoute.{BegunRoute}
pub use Rattle.origins_lines.specs.declared.explanation.Form.{Form}
pub use Rattle.origins_lines.specs.declared.explanation.Reason.{Reason}
pub use Rattle.origins_lines.specs.declared.outcome.Outcome.{Outcome}
pub use Rattle.roa_routes.specs.declared.route.Route.{Route}
