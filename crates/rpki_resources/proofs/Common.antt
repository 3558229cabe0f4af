-- What the proofs of this crate use of std, of the crates below and of its own definitions, passed on by one name.
pub use Rattle.std.proofs.Common.{Bool, Err, IsTrue, List, Ok, Result, [], ap₂, arith, codes, false, refl, subst, sym}
pub use Rattle.std.proofs.Common.{true, ℕ, ◌++◌, ◌↔◌, ◌≡◌}
pub use Rattle.std.specs.Prelude.{IfOk, MatchResult, if◌then◌else◌}
pub use Rattle.rpki_as.specs.ListText.{IsAsListText, as_list_text}
pub use Rattle.rpki_chain.specs.Operations.{IsDifference, IsUnion}
pub use Rattle.rpki_chain.specs.Runs.{Holds, IsRunsOf, Runs}
pub use Rattle.rpki_chain_core.proofs.Chains.{Covers-nil}
pub use Rattle.rpki_text.specs.Memory.{IsMemory}
pub use Rattle.rpki_text.specs.declared.memory.OrMemory.{OrMemory}
pub use Rattle.rpki_resources.specs.TripleText.{IsIpv4ListText, IsIpv6ListText, IsTripleText, ipv4_list_text}
pub use Rattle.rpki_resources.specs.TripleText.{ipv6_list_text, kind_text}
pub use Rattle.rpki_resources.specs.Triples.{Changes, InEach, IsDifferenceOf, ListsRuns, Triple, is_none}
pub use Rattle.rpki_resources.specs.declared.error.FromStrError.TheVariants.{Asn, Ipv4, Ipv6}
