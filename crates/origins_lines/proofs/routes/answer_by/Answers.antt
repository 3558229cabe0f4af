-- The answers by the table are answers by the list.
use Rattle.origins_lines.proofs.AnswerLemmas.{by_list, run_turned}
use Rattle.origins_lines.proofs.routes.answer_by.Goals as goal

pub returns : goal.returns
returns g c =
    let moved = rw c.as_slice.ensures.value at c.in_ok-table.ensures.vrps in
    run_turned _ _ (by_list c.args.form c.args.why c.args.listed.items _ moved) _ _ _ _ _ _ _ _ _ _
    c.answer_as_read.ensures
