-- The lines whose ends were read are answered, and a number bounds how often there can be more.
use Rattle.lines_engine.proofs.Common.{vec_len, ◌-◌, ◌<◌, ◌^◌, ◌≡◌, HasNo, AnswersBut}
use Rattle.lines_engine.proofs.stream.answer_as_read.Given as goal

abbrev pub invariant-loop-count : goal.invariant-loop-count
invariant-loop-count g l = record {
  reader_unmarked : g.R.Source.mark l.reader ≡ g.R.Source.mark l.fn.reader;
  writer_unmarked : g.W.Sink.mark l.writer ≡ g.W.Sink.mark l.fn.writer;
  not_empty : 0 < vec_len l.piece;
  unended : HasNo 10 l.part.items;
  answered : AnswersBut (g.L.Answers.is_answer l.fn.answers) (g.W.Sink.written l.fn.writer) (g.W.Sink.written l.writer)
      (g.R.Source.left l.fn.reader) (g.R.Source.left l.reader) l.part.items;
}

abbrev pub decreases-loop-count : goal.decreases-loop-count
decreases-loop-count g l = 2 ^ 64 - l.total
