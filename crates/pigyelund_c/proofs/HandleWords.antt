-- What the proofs on handles of sets use of std and of the crates below, passed on by one name.
pub use Rattle.std.proofs.Common.{List, [], ap, append_assoc, arith, get_or, length, lit<, map, refl, subst, sym, take}
pub use Rattle.std.proofs.Common.{ℕ, ◌++◌, ◌+◌, ◌<◌, ◌∙◌, ◌∷◌, ◌≡◌}
pub use Rattle.std.proofs.VecSteps.Shapes.{after}
pub use Rattle.std.proofs.alloc.Calls.{Goes-blank, handle_tells}
pub use Rattle.std.proofs.option.Made.{Some-of, none_of}
pub use Rattle.std.proofs.raw_atomic.Walks.{leaves, proved_at}
pub use Rattle.std.specs.Box.Ownership.{box_owns}
pub use Rattle.std.specs.Prelude.{Err, MatchResult, None, Ok, Result, Some}
pub use Rattle.std.specs.Ptr.{if_non_null}
pub use base.Fml.{Lft, ftrue}
pub use base.Logic.{SProp, emp, ent, id⊢, sep}
pub use contract.Monad.{Fun, fact, fact_i}
pub use contract.Running.{tables}
pub use denote.Builtin.{RawPtr}
pub use denote.RattleType.{RattleType, Valss, owns}
pub use denote.RawPtr.{InBlock, Ptr, Testable, block_ptr, null_ptr, ptr_val, tests_null}
pub use denote.Signature.{plain, types_at}
pub use denote.Steps.{nothing}
pub use denote.Struct.Owning.{shape}
pub use denote.Struct.Struct.{within}
pub use denote.Triple.Entry.{alive}
pub use denote.Triple.Walked.{Stays, stay_dropped, walk_of}
pub use mir.Val.{Val, of_list, vcons, vnil, vnull, vptr, vstruct}
pub use prog.Memory.{Memory}
pub use prog.Routine.{Routine}
pub use prog.Wp.{Calls, Loops, WpFn}
pub use seplogic.Ra.Ura.{Ura}
pub use types.ByLocal.{alloc_all, env, free_all, get, get_in, look_at, pass_all, sets, sets_last, through}
pub use types.Kit.{at_ret, !, by, drop, feq_i, feq_l, fjoin, fpack, fpick, fsplit, keep, move, qed, raw, split}
pub use types.Kit.{suffices, use0, use1, ‵, ◌$◌, ◌∵◌, ◌⊛◌}
pub use types.Logic.{Logic, sem}
pub use types.Match.{live}
pub use types.Part.{agg, sub, whole}
pub use types.Run.{addr, and_then, bin, blocks, branches, enter, exec, first, fld, lit, no_more, of_opd, returns}
pub use types.Run.{returns_within, skips, stop}
pub use Rattle.box_pointer.proofs.BoxWords.{apart, fit, together, words}
pub use Rattle.pigyelund_c.specs.Handles.{boxed_set, set_row}
