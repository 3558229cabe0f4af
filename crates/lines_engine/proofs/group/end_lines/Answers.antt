use Rattle.lines_engine.proofs.Common.{Err, Ok, arith, length, ◌<◌, ◌∙◌}
use Rattle.std.proofs.lemmas.Result.{err_from_is_err_and}
use Rattle.std.specs.String.{string_bytes}
use Rattle.lines_engine.proofs.RunLemmas.{line_are}
use Rattle.lines_engine.proofs.GroupLemmas.{group_more}
use Rattle.lines_engine.proofs.group.end_lines.Goals as goal

pub returns-in_err-write_line-clause-answered : goal.returns-in_err-write_line-clause-answered
returns-in_err-write_line-clause-answered g c =
    let less : c.loop-asked.asked-index < length c.advance_lines.new.group = omega arith in
    let p = err_from_is_err_and c.from_residual-in_err-write_line.result c.from_residual-in_err-write_line.ensures.1 in
    rw (p.1, p.2)
    (group_more _ _ _ _ _ _ c.loop-asked.asked-index c.asked-item.result (Err c.in_err-write_line.field-0.0) less
    c.asked-item.is c.loop-asked.invariant.answered (line_are _ _ _ _ (string_bytes c.end.new.text)
    (Err c.in_err-write_line.field-0.0) c.in_ok-end.ensures c.in_err-write_line.ensures.written))

pub loop-asked-preserved : goal.loop-asked-preserved
loop-asked-preserved g c =
    let less : c.loop-asked.asked-index < length c.advance_lines.new.group = omega arith in
    record {
      unmarked = c.in_ok-write_line.ensures.marked ∙ c.loop-asked.invariant.unmarked;
      answered =
          group_more _ _ _ _ _ _ c.loop-asked.asked-index c.asked-item.result (Ok tt) less c.asked-item.is
          c.loop-asked.invariant.answered (line_are _ _ _ _ (string_bytes c.end.new.text) (Ok tt)
          c.in_ok-end.ensures c.in_ok-write_line.ensures.written);
    }
