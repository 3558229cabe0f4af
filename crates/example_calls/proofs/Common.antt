-- What the proofs of this crate use of std, of the crates below and of its own definitions, passed on by one name.
pub use Rattle.std.proofs.Common.{Bool, Contains, IsTrue, List, [], ap, arith, false, get_or, length, refl, rules}
pub use Rattle.std.proofs.Common.{subst, sym, take, true, ℕ, ◌++◌, ◌+◌, ◌<◌, ◌↔◌, ◌∙◌, ◌∷◌, ◌≡◌, ◌≤◌}
pub use Rattle.std.proofs.lemmas.List.{append-nil, length_push, nil_from_length, take_all}
pub use Rattle.std.proofs.lemmas.Result.{IfOk-weaker}
pub use Rattle.std.specs.Slice.Iter.{iter_rest}
pub use Rattle.roa_origin.specs.Coverings.{AreThose}
pub use Rattle.rpki_chain.specs.Runs.{IsRunsOfBlocks, Runs}
pub use Rattle.rpki_prefix.specs.Values.{CoversPrefix, FamilyPrefix}
pub use Rattle.rpki_text.specs.Memory.{IsMemory}
pub use Rattle.example_calls.specs.Routes.{IsCountOfInvalid, IsInvalid}
