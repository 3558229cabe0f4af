use Rattle.lines_engine.proofs.Common.{Err, [], lines_of}
use Rattle.std.proofs.lemmas.Result.{err_from_is_err_and}
use Rattle.lines_engine.proofs.RunLemmas.{then_are}
use Rattle.lines_engine.proofs.engine.answer_lines.Goals as goal

pub returns-in_err-answer_line-clause-answered : goal.returns-in_err-answer_line-clause-answered
returns-in_err-answer_line-clause-answered g c =
    let p = err_from_is_err_and c.from_residual.result c.from_residual.ensures.1 in
    rw (p.1, p.2) (then_are (g.L.Answers.is_answer c.args.answers.now) _ _ _ _ _ []
    (Err c.in_err-answer_line.field-0.0)
    (rw c.cut_at_line_end.ensures.first at c.loop-rest.invariant.answered)
    (c.in_err-answer_line.ensures.answered (lines_of c.cut_at_line_end.result.1.now)))
