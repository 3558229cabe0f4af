-- A beginning of the line was written.
use Rattle.origins_lines.proofs.Common.{inr, refl}
use Rattle.origins_lines.proofs.lines.write_vrp.Goals as goal

pub returns : goal.returns
returns g c =
    let (unwritten, wrote) = c.in-Err.ensures.some_written in
    record {
      marked = c.in-Err.ensures.mark;
      wrote =
          rw (← c.is_wanted.ensures, c.if-not-is_wanted.false, ← c.in_ok-line.ensures, ← c.deref.ensures.value)
          (inr (c.deref.result.now, refl, unwritten, wrote, tt));
    }
