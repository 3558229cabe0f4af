-- The lines of the group before this one are answered, and the answers are written whole.
use Rattle.lines_engine.proofs.Common.{[], drop, ◌≡◌, HasAnswered, group_lines}
use Rattle.lines_engine.proofs.group.end_lines.Given as goal

abbrev pub invariant-loop-asked : goal.invariant-loop-asked
invariant-loop-asked g l = record {
  unmarked : g.W.Sink.mark l.writer ≡ g.W.Sink.mark l.fn.writer;
  answered : HasAnswered (g.L.Answers.is_answer l.answers) (g.W.Sink.written l.fn.writer) (g.W.Sink.written l.writer)
      (group_lines l.fn.group) (group_lines (drop l.asked-index l.group)) [];
}
