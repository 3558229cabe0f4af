-- The answers by the table are answers by the list of the file.
use Rattle.origins_lines.proofs.AnswerLemmas.{answered_turned, by_list}
use Rattle.origins_lines.proofs.text.answer_text.Goals as goal

pub returns-clause-answered : goal.returns-clause-answered
returns-clause-answered g c =
    let listed = c.in_ok-listed.listed.items in
    let moved = rw c.as_slice.ensures.value at c.in_ok-table.ensures.vrps in
    let turn = by_list c.args.form c.args.why listed _ moved in
    let turned = answered_turned _ _ turn _ _ _ _ _ c.in_ok-answer_text.ensures in
    (listed, c.in_ok-listed.ensures.answers.found, turned)
