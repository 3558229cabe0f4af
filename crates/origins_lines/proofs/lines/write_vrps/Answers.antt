use Rattle.origins_lines.proofs.Common.{vrp_line, vrp_lines, ◌∙◌}
use Rattle.std.proofs.lemmas.Result.{err_from_is_err_and}
use Rattle.origins_lines.proofs.LineLemmas.{front_failed, front_written}
use Rattle.origins_lines.proofs.lines.write_vrps.Goals as goal

-- a beginning of the VRP's line was written
pub returns-in_err-write_vrp : goal.returns-in_err-write_vrp
returns-in_err-write_vrp g c =
    let p = err_from_is_err_and c.from_residual.result c.from_residual.ensures.1 in
    let had = rw c.in-Some.ensures.cases.0 at c.loop-vrp.invariant.written in
    rw (p.1, p.2)
    (front_failed g.W.Sink.mark g.W.Sink.written _ (vrp_line c.args.of c.args.word.now c.in-Some.vrp.now)
    (vrp_lines c.args.of c.args.word.now c.in-Some.behind.now) _ _ _ had c.loop-vrp.invariant.unmarked
    c.in_err-write_vrp.field-0.0 c.in_err-write_vrp.ensures)

pub loop-vrp-preserved : goal.loop-vrp-preserved
loop-vrp-preserved g c =
    let had = rw c.in-Some.ensures.cases.0 at c.loop-vrp.invariant.written in
    record {
      unmarked = c.in_ok-write_vrp.ensures.marked ∙ c.loop-vrp.invariant.unmarked;
      written =
          front_written g.W.Sink.mark g.W.Sink.written _ (vrp_line c.args.of c.args.word.now c.in-Some.vrp.now)
          (vrp_lines c.args.of c.args.word.now c.in-Some.behind.now) _ _ _ had c.loop-vrp.invariant.unmarked
          c.in_ok-write_vrp.ensures;
    }
