-- Changes without a fault make the next table.
use Rattle.roa_origin.proofs.TableUpdates.{updated_by}
use Rattle.roa_origin.proofs.updates.after_changes.Goals as goal

pub returns-clause-updated : goal.returns-clause-updated
returns-clause-updated g c =
    updated_by c.in_ok-next.ensures.updated c.requires.vrps
    (rw c.as_slice-4.ensures.value c.in_ok-gone.ensures.changes)
    (rw c.as_slice-5.ensures.value c.in_ok-come.ensures.changes)

pub returns-clause-faults : goal.returns-clause-faults
returns-clause-faults g c =
    let gone = c.in_ok-gone.ensures.changes in record {
      known = c.in_default.ensures;
      fresh = c.in_default-first_duplicate.ensures c.args.withdrawn.now (rw c.as_slice-2.ensures.value gone);
    }
