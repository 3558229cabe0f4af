-- The text has the lines of the withdrawn VRPs, and then those of the announced ones.
use Rattle.std.proofs.lemmas.Result.{err_from_is_err_and}
use Rattle.origins_lines.proofs.LineLemmas.{both_written, changes_text, first_failed, text_flushed, written_as}
use Rattle.origins_lines.proofs.tables.write_listed_changes.Goals as goal

pub returns-in_err-write_vrps : goal.returns-in_err-write_vrps
returns-in_err-write_vrps g c =
    let p = err_from_is_err_and c.from_residual-in_err-write_vrps.result
    c.from_residual-in_err-write_vrps.ensures.1 in
    let changes = c.in_ok-changes.ensures in
    let is = changes_text c.in_ok-old.ensures c.in_ok-new.ensures changes.withdrawn changes.announced in
    rw (p.1, p.2) (record {
      text =
          written_as g.W.Sink.mark g.W.Sink.written is _ _ _
          (first_failed g.W.Sink.mark g.W.Sink.written _ _ _ _ c.in_err-write_vrps.field-0.0
          c.in_err-write_vrps.ensures);
      flushed = tt;
    })

pub returns-in_err-write_vrps-2 : goal.returns-in_err-write_vrps-2
returns-in_err-write_vrps-2 g c =
    let p = err_from_is_err_and c.from_residual-in_err-write_vrps-2.result
    c.from_residual-in_err-write_vrps-2.ensures.1 in
    let changes = c.in_ok-changes.ensures in
    let is = changes_text c.in_ok-old.ensures c.in_ok-new.ensures changes.withdrawn changes.announced in
    rw (p.1, p.2) (record {
      text =
          written_as g.W.Sink.mark g.W.Sink.written is _ _ _
          (both_written g.W.Sink.mark g.W.Sink.written _ _ _ _ c.in_ok-write_vrps.ensures _ _
          c.in_err-write_vrps-2.ensures);
      flushed = tt;
    })

pub returns : goal.returns
returns g c =
    let changes = c.in_ok-changes.ensures in
    let is = changes_text c.in_ok-old.ensures c.in_ok-new.ensures changes.withdrawn changes.announced in
    let flush = c.flush_all.ensures in
    text_flushed g.W.Sink.mark g.W.Sink.written g.W.Sink.flushed _ _ _ _ _
    (written_as g.W.Sink.mark g.W.Sink.written is _ _ _
    (both_written g.W.Sink.mark g.W.Sink.written _ _ _ _ c.in_ok-write_vrps.ensures _ _
    c.in_ok-write_vrps-2.ensures))
    flush.unmarked flush.flushed flush.write flush.kept
