-- All lines but those of the rest are answered, and the answers are written whole.
use Rattle.lines_engine.proofs.Common.{[], length, ◌≡◌, lines_of, HasAnswered}
use Rattle.lines_engine.proofs.engine.answer_lines.Given as goal

abbrev pub invariant-loop-rest : goal.invariant-loop-rest
invariant-loop-rest g l = record {
  unmarked : g.W.Sink.mark l.writer ≡ g.W.Sink.mark l.fn.writer;
  answered : HasAnswered (g.L.Answers.is_answer l.fn.answers) (g.W.Sink.written l.fn.writer) (g.W.Sink.written l.writer)
      (lines_of l.fn.text) (lines_of l.rest) [];
}

abbrev pub decreases-loop-rest : goal.decreases-loop-rest
decreases-loop-rest g l = length l.rest
