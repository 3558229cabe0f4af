use Rattle.lines_engine.proofs.Common.{Err, Ok, [], ap, arith, common_steps, length, ◌<◌, ◌∙◌}
use Rattle.std.proofs.lemmas.Result.{err_from_is_err_and}
use Rattle.lines_engine.proofs.RunLemmas.{then_are}
use Rattle.lines_engine.proofs.GroupLemmas.{group_are}
use Rattle.lines_engine.proofs.StreamLemmas.{kept_are, left_are}
use Rattle.lines_engine.proofs.group.answer_groups.Goals as goal

-- there was no memory for a group
pub returns-in_err-group-clause-answered : goal.returns-in_err-group-clause-answered
returns-in_err-group-clause-answered g c more =
    let some : 0 < length c.args.piece.now = grind (arith, common_steps) in
    let p = err_from_is_err_and c.from_residual.result c.from_residual.ensures.1 in
    left_are _ _ [] c.args.piece.now more _ _ (p.1 ∙ ap Err p.2) some

-- there was no memory to begin a line
pub returns-in_err-behind-clause-answered : goal.returns-in_err-behind-clause-answered
returns-in_err-behind-clause-answered g c more =
    let p = err_from_is_err_and c.from_residual-in_err-behind.result c.from_residual-in_err-behind.ensures.1 in
    then_are _ _ _ _ _ _ _ _ (c.loop-group.invariant.answered more)
    (left_are _ _ [] c.loop-group.unanswered.now more _ _ (p.1 ∙ ap Err p.2) c.in_err-behind.ensures.some)

-- not all lines of the group were answered
pub returns-in_err-end_lines-clause-answered : goal.returns-in_err-end_lines-clause-answered
returns-in_err-end_lines-clause-answered g c more =
    let p = err_from_is_err_and c.from_residual-in_err-end_lines.result c.from_residual-in_err-end_lines.ensures.1 in
    rw (p.1, p.2)
    (group_are _ _ _ _ _ _ _ _ (Err c.in_err-end_lines.field-0.0) (c.in_ok-behind.ensures.lines more)
    (c.loop-group.invariant.answered more) (rw c.deref_mut.ensures.value at c.in_err-end_lines.ensures.answered))

-- all lines that end in the piece were answered, and what is after them is kept
pub returns-then-len-lt-GROUP-clause-answered : goal.returns-then-len-lt-GROUP-clause-answered
returns-then-len-lt-GROUP-clause-answered g c more =
    let kept = rw c.loop-group.invariant.unkept at c.keep.ensures.kept in
    then_are _ _ _ _ _ _ _ _
    (group_are _ _ _ _ _ _ _ _ (Ok tt) (c.in_ok-behind.ensures.lines more)
    (c.loop-group.invariant.answered more) (rw c.deref_mut.ensures.value at c.in_ok-end_lines.ensures.answered))
    (kept_are _ _ [] c.in_ok-behind.behind.now _ c.keep.result kept c.keep.ensures.memory more)

pub loop-group-preserved : goal.loop-group-preserved
loop-group-preserved g c = record {
  unmarked = c.in_ok-end_lines.ensures.marked ∙ c.loop-group.invariant.unmarked;
  unkept = c.loop-group.invariant.unkept;
  empty = grind (arith, common_steps);
  answered =
      λ more. group_are _ _ _ _ _ _ _ _ (Ok tt) (c.in_ok-behind.ensures.lines more)
      (c.loop-group.invariant.answered more) (rw c.deref_mut.ensures.value at c.in_ok-end_lines.ensures.answered);
}
