-- Each turn takes a member of a family that wasn't found before, or is at the end, or meets the
-- first fault.
use Rattle.rpki_der.proofs.Common.{[], arith, length, refl, ◌∙◌, ◌≡◌, ◌≢◌, nil_from_length, err_from_is_err_and, left}
use Rattle.rpki_der.proofs.Common.{none_found}
use Rattle.rpki_der.proofs.FamiliesLoops.{loop_ends, loop_fails_or_memory, loop_more}
use Rattle.rpki_der.proofs.SequenceFaults.{looked_shorter}
use Rattle.rpki_der.proofs.sequences.families.members_within.Goals as goal

pub loop-inside-init : goal.loop-inside-init
loop-inside-init g c =
    record {
      mode = refl;
      so_far = record {
        before = none_found;
        says = (tt, tt);
        steps = length (left c.args.content);
        enough = omega arith;
        whole = refl;
      };
    }

pub loop-inside-smaller : goal.loop-inside-smaller
loop-inside-smaller g c =
    looked_shorter 48 _ (left c.loop-inside.inside) (_, left c.next_member.new.cursor) c.in_ok-family.ensures.by_mode.1

pub loop-inside-preserved : goal.loop-inside-preserved
loop-inside-preserved g c =
    let member = rw c.loop-inside.invariant.mode at c.in_ok-family.ensures.by_mode in
    record {
      mode = c.in_ok-family.ensures.mode ∙ c.loop-inside.invariant.mode;
      so_far = rw c.and_claim-found.ensures
          (loop_more _ _ _ _ _ member.0 (c.in_ok-family.family, c.in_ok-family.claim) _
          c.loop-inside.invariant.so_far member.1 member.2 (loop-inside-smaller g c));
    }

pub returns : goal.returns
returns g c =
    let old = left c.loop-inside.inside in
    let none : old ≡ [] = grind (arith, nil_from_length old, c.is_empty.ensures.empty, c.loop-inside-test.false) in
    record { by_mode = loop_ends _ _ _ old _ c.loop-inside.invariant.so_far none }

pub returns-in_err-family : goal.returns-in_err-family
returns-in_err-family g c =
    let old = left c.loop-inside.inside in
    let some : old ≢ [] = grind (arith, c.is_empty.ensures.empty, c.loop-inside-test.true) in
    let refused = rw c.loop-inside.invariant.mode at c.in_err-family.ensures.by_mode.0 in
    let e = c.in_err-family.field-0.0 in
    let failed = loop_fails_or_memory _ _ _ old _ e c.loop-inside.invariant.so_far some refused in
    let p = err_from_is_err_and c.from_residual.result c.from_residual.ensures.1 in
    record { by_mode = rw (p.1, p.2) failed }
