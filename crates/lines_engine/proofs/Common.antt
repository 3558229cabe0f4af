-- What the proofs of this crate use of std, of the crates below and of its own definitions, passed on by one name.
pub use Rattle.std.proofs.Common.{Err, List, None, Ok, Option, Some, [], ap, append-nil, append_assoc, arith, drop}
pub use Rattle.std.proofs.Common.{length}
pub use Rattle.std.proofs.Common.{add-one, get_or, rules, set, true, zero, ◌∙◌, Bool}
pub use Rattle.std.proofs.Common.{length-append, refl, suc, sym, take, vec_len, ℕ, ◌++◌, ◌+◌, ◌-◌, ◌<◌, ◌^◌, ◌∷◌, ◌≡◌}
pub use Rattle.std.proofs.Common.{◌≢◌, ◌≤◌}
pub use Rattle.std.proofs.lemmas.Grind.{common_steps, flat_map-append}
pub use Rattle.std.specs.Io.KnownBytes.{Appends, Consumes, IsAtEnd, Keeps}
pub use Rattle.std.specs.Prelude.{IfErr, IfSome, OnOk, Result}
pub use Rattle.rpki_text.specs.Cuts.{HasNo, IsCutAt}
pub use Rattle.rpki_text.specs.Lines.{lines_of}
pub use Rattle.lines_engine.specs.Run.{AnswersAll, AnswersBut, AnswersFirst, AreAnswered, BreaksOff, HasAnswered}
pub use Rattle.lines_engine.specs.Run.{HasWritten, IsLineWritten, IsRun, MarksWriter, as_line}
pub use Rattle.lines_engine.specs.Groups.{AnswersAreBegun, group_lines}
pub use Rattle.lines_engine.specs.declared.error.RunError.{RunError}
pub use Rattle.lines_engine.specs.declared.error.RunError.TheVariants.{Memory, Read, Write}
