-- The lines that end in the piece before what is unanswered are answered, and the answers are written whole. Nothing is
-- kept yet.
use Rattle.lines_engine.proofs.Common.{List, [], length, ℕ, ◌++◌, ◌≡◌, lines_of, HasAnswered}
use Rattle.lines_engine.proofs.group.answer_groups.Given as goal

abbrev pub invariant-loop-group : goal.invariant-loop-group
invariant-loop-group g l = record {
  unmarked : g.W.Sink.mark l.writer ≡ g.W.Sink.mark l.fn.writer;
  unkept : l.part.items ≡ [];
  empty : l.group.items ≡ [];
  answered : (more : List ℕ)
      → HasAnswered (g.L.Answers.is_answer l.answers) (g.W.Sink.written l.fn.writer) (g.W.Sink.written l.writer)
      (lines_of (l.fn.piece ++ more)) (lines_of (l.unanswered ++ more)) [];
}

abbrev pub decreases-loop-group : goal.decreases-loop-group
decreases-loop-group g l = length l.unanswered
