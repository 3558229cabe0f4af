-- What the proofs of this crate use of std, of the crates below and of its own definitions, passed on by one name.
pub use Rattle.std.proofs.Common.{Bool, IfOk, List, None, Ok, Option, Result, Some, [], ap, arith, get_or, inl, inr}
pub use Rattle.std.proofs.Common.{length, map, option_map, refl, rules, subst, suc, sym, take, true, vec_len, ℕ, ◌++◌}
pub use Rattle.std.proofs.Common.{◌+◌, ◌-◌, ◌<◌, ◌^◌, ◌↔◌, ◌∙◌, ◌∷◌, ◌≡◌, ◌≢◌, ◌≤◌, ◌⊎◌}
pub use Rattle.std.proofs.Math.Nat.{le_refl}
pub use Rattle.std.proofs.lemmas.Bool.{cases_lt, false≢true}
pub use Rattle.std.proofs.lemmas.List.{append_assoc, get_or-map, get_or-take, get_or_default, length-map}
pub use Rattle.std.proofs.lemmas.List.{length-take-le, map-append, take_all}
pub use Rattle.std.proofs.lemmas.List.Elements.{All-cons, All-contains, All-contains_itself, All-head, All-map}
pub use Rattle.std.proofs.lemmas.List.Elements.{All-more, All-nil, All-tail, All-weaker}
pub use Rattle.std.proofs.lemmas.Result.{IfOk-weaker}
pub use Rattle.std.specs.Bool.{Decides}
pub use Rattle.std.specs.Prelude.{All, AllPairs, Contains, Err, IfErr, IsErrAnd, IsOk, MatchResult, ⊤}
pub use Rattle.rpki_der.specs.SequenceReading.{IsSequenceFrom, SaysByTag, some_in}
unfoldable pub use Rattle.rpki_der.specs.SequenceReading.{by_tag}
pub use Rattle.rpki_block.specs.Equality.{is_same_pair}
pub use Rattle.rpki_chain_core.proofs.Chains.{Covers-nil, IsChain-from, IsChain-nil, IsChainOf-itself}
pub use Rattle.rpki_chain_core.proofs.UniqueChain.{Covers-cons_cases, Covers-head, Covers-tail, IsChain-unique}
pub use Rattle.rpki_chain_core.specs.Equality.{same_runs}
pub use Rattle.rpki_chain_core.specs.Sets.{Covers, IsChain, IsChainOf, IsInside, IsNew, IsOfKind, IsWithin}
pub use Rattle.rpki_der.specs.Der.{EachFrom, IsBytes, IsNothing, IsSequence, IsTlv, Refines, Spells, Where}
pub use Rattle.rpki_der.specs.Der.{sequence_value}
pub use Rattle.rpki_der.specs.Reading.{IsModal, IsReading, Tightens, nothing, value_at}
pub use Rattle.rpki_der.specs.declared.error.DerError.{DerError}
pub use Rattle.rpki_text.proofs.TextListLemmas.{AnswersOrMemory-from_found}
pub use Rattle.rpki_text.specs.Memory.{IfRefused}
pub use Rattle.rpki_text.specs.declared.memory.OrMemory.{OrMemory}
pub use Rattle.rpki_text.specs.declared.memory.OrMemory.TheVariants.{Memory, Refused}
pub use Rattle.rpki_chain.specs.BlockSets.{IsBlockChain, IsBlockSet}
pub use Rattle.rpki_chain.specs.ChoiceDer.{IsChoiceOf, choice_at, choice_in, inherited_in, listed_in}
pub use Rattle.rpki_chain.specs.Choices.{ListsBy, MatchChoice}
pub use Rattle.rpki_chain.specs.Claims.{Claim, blocks_so_far}
pub use Rattle.rpki_chain.specs.Operations.{IsDifference, IsIntersection}
pub use Rattle.rpki_chain.specs.Paths.{Exceeds, ExceedsAt, IsCovered, IsExcess, IsFirstRefusal, IsIssued, IsLeft}
pub use Rattle.rpki_chain.specs.Paths.{IsPathResult, IsUncovered, Leaves, Lists, one_step}
pub use Rattle.rpki_chain.specs.Runs.{Holds, IsRunsOf, IsRunsOfBlocks, Runs}
pub use Rattle.rpki_chain.specs.declared.choice.ResourcesChoice.{ResourcesChoice}
pub use Rattle.rpki_chain.specs.declared.choice.ResourcesChoice.TheVariants.{Blocks, Inherit, Missing}
pub use Rattle.rpki_chain.specs.declared.path.Overclaim.{Overclaim}
pub use Rattle.rpki_chain.specs.declared.path.Overclaim.TheVariants.{Refuse, Trim}
pub use Rattle.rpki_chain.specs.declared.path.Step.{Step}
