use Rattle.lines_engine.proofs.Common.{lines_of, ◌++◌}
use Rattle.std.proofs.lemmas.Result.{err_from_is_err_and}
use Rattle.lines_engine.proofs.RunLemmas.{then_are}
use Rattle.lines_engine.proofs.StreamLemmas.{lines-joined}
use Rattle.lines_engine.proofs.stream.answer_piece.Goals as goal

-- the line that ends in the piece was not answered
pub returns-in_err-answer_line-in-Some-clause-answered : goal.returns-in_err-answer_line-in-Some-clause-answered
returns-in_err-answer_line-in-Some-clause-answered g c more =
    let p = err_from_is_err_and c.from_residual-in_err-answer_line-in-Some.result
    c.from_residual-in_err-answer_line-in-Some.ensures.1 in
    rw (p.1, p.2, lines-joined c.args.part.now.items c.args.piece.now _ _ more c.requires.unended c.in-Some.ensures)
    (rw (c.as_slice-in-Some.ensures.value, c.in_ok-extend_from_slice-in-Some.ensures.items) at
    (c.in_err-answer_line-in-Some.ensures.answered (lines_of (c.in-Some.behind.now ++ more))))

-- it was, and then the lines after it
pub returns-in_ok-answer_line-in-Some-clause-answered : goal.returns-in_ok-answer_line-in-Some-clause-answered
returns-in_ok-answer_line-in-Some-clause-answered g c more =
    rw (lines-joined c.args.part.now.items c.args.piece.now _ _ more c.requires.unended c.in-Some.ensures)
    (then_are (g.L.Answers.is_answer c.args.answers.now) _ _ _ _ _ _ c.answer_groups-in-Some.result
    (rw (c.as_slice-in-Some.ensures.value, c.in_ok-extend_from_slice-in-Some.ensures.items) at
    (c.in_ok-answer_line-in-Some.ensures.answered (lines_of (c.in-Some.behind.now ++ more))))
    (c.answer_groups-in-Some.ensures.answered more))
