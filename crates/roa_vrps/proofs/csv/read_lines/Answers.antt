use Rattle.roa_vrps.proofs.Common.{Blank, Header, arith, eqb-true, nil_from_length, refl}
use Rattle.roa_vrps.proofs.CsvLemmas.{read_all, read_over, read_vrp, read_wanting, read_wrong}
use Rattle.roa_vrps.proofs.csv.read_lines.Goals as goal

-- memory is requested for a VRP
pub returns-in_err-add_line-in-Ok-Vrp : goal.returns-in_err-add_line-in-Ok-Vrp
returns-in_err-add_line-in-Ok-Vrp g c =
    let wants =
    read_wanting _ _ _ c.cut_at_line_end.result.1.now c.cut_at_line_end.result.0.now _ _ _ _ c.loop-rest.invariant.read
    c.cut_at_line_end.ensures.first c.in-Ok-Vrp.vrp (rw c.in-Ok-Vrp.field-0-is at c.in-Ok-Vrp.ensures) in
    grind (arith, wants)

-- a VRP more
pub loop-rest-preserved-in_ok-add_line-in-Ok-Vrp : goal.loop-rest-preserved-in_ok-add_line-in-Ok-Vrp
loop-rest-preserved-in_ok-add_line-in-Ok-Vrp g c =
    let had = c.loop-rest.invariant.within in
    let shorter = c.cut_at_line_end.ensures.shorter in
    record {
      within = omega arith;
      read = rw (c.in_ok-push-in-Ok-Vrp.ensures.items)
          (read_vrp _ _ _ _ c.cut_at_line_end.result.0.now _ _ _ _ c.loop-rest.invariant.read
          c.cut_at_line_end.ensures.first c.in-Ok-Vrp.vrp c.add_line.new.expiries
          (rw c.in-Ok-Vrp.field-0-is at c.in-Ok-Vrp.ensures)
          (c.in_ok-add_line-in-Ok-Vrp.ensures c.loop-rest.invariant.read.entries c.loop-rest.invariant.read.read
          c.in-Ok-Vrp.vrp));
    }

-- other columns
pub loop-rest-preserved-in-Ok-Header : goal.loop-rest-preserved-in-Ok-Header
loop-rest-preserved-in-Ok-Header g c =
    let had = c.loop-rest.invariant.within in
    let shorter = c.cut_at_line_end.ensures.shorter in
    record {
      within = omega arith;
      read =
          read_over _ _ _ _ c.cut_at_line_end.result.0.now _ _ _ _ c.loop-rest.invariant.read
          c.cut_at_line_end.ensures.first
          (Header c.in-Ok-Header.next) refl (rw c.in-Ok-Header.field-0-is at c.in-Ok-Header.ensures);
    }

-- the first invalid line
pub returns-in-Err : goal.returns-in-Err
returns-in-Err g c =
    read_wrong _ _ _ c.cut_at_line_end.result.1.now c.cut_at_line_end.result.0.now _ _ _ _ c.loop-rest.invariant.read
    c.cut_at_line_end.ensures.first
    c.in-Err.fault c.in-Err.ensures

-- no line is left
pub returns : goal.returns
returns g c =
    read_all _ _ _ _ _ (record { vrps = c.loop-rest.vrps; expiries = c.loop-rest.expiries })
    c.loop-rest.invariant.read (grind (arith, eqb-true, nil_from_length))

pub loop-rest-preserved : goal.loop-rest-preserved
loop-rest-preserved g c =
    let had = c.loop-rest.invariant.within in
    let shorter = c.cut_at_line_end.ensures.shorter in
    record {
      within = omega arith;
      read =
          read_over _ _ _ _ c.cut_at_line_end.result.0.now _ _ _ _ c.loop-rest.invariant.read
          c.cut_at_line_end.ensures.first Blank refl (rw c.in-Ok-Blank.field-0-is at c.in-Ok-Blank.ensures);
    }
