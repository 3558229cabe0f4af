-- What the proofs of this crate use of std and of the definitions of the crates below, passed on by one name.
pub use Rattle.std.proofs.Common.{Err, IfOk, List, Ok, Result, [], ap, arith, get_or, inl, inr, length, map}
pub use Rattle.std.proofs.Common.{refl}
pub use Rattle.std.proofs.Common.{rules, subst, suc, sym, take, ℕ, ◌++◌, ◌+◌, ◌<◌, ◌↔◌, ◌∙◌, ◌∷◌, ◌≡◌, ◌≤◌, ◌⊎◌}
pub use Rattle.std.proofs.lemmas.List.{append-nil, append_assoc}
pub use Rattle.std.proofs.lemmas.List.Elements.{All-cons, All-head, All-nil, All-tail}
pub use Rattle.std.proofs.lemmas.Bool.{cases_lt}
pub use Rattle.std.proofs.lemmas.Result.{IfOk-weaker}
pub use Rattle.std.specs.Prelude.{All, Any, IfErr, MatchResult, zero}
pub use Rattle.rpki_text.specs.Memory.{IfRefused, IsMemory}
pub use Rattle.rpki_text.specs.declared.memory.OrMemory.{OrMemory}
pub use Rattle.rpki_text.specs.declared.memory.OrMemory.TheVariants.{Memory, Refused}
pub use Rattle.rpki_der.specs.Der.{Front, NoFront}
pub use Rattle.rpki_der.specs.SequenceViews.{ReadsOrMemory}
pub use Rattle.rpki_der.specs.Views.{left}
pub use Rattle.rpki_chain_core.specs.Sets.{Covers, IsWithin}
pub use Rattle.rpki_chain.specs.Claims.{Claim}
pub use Rattle.rpki_chain.specs.Paths.{Exceeds, IsIssued, IsLeft, IsPathResult, Leaves, Lists}
pub use Rattle.rpki_chain.specs.Runs.{Holds, IsRunsOf, IsRunsOfBlocks, Runs}
pub use Rattle.rpki_chain.specs.declared.path.Overclaim.TheVariants.{Refuse}
pub use Rattle.rpki_chain.specs.declared.path.Step.{Step}
