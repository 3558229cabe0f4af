-- Sorting only moves changes.
use Rattle.roa_origin.proofs.ChangesAsListed.{listed_moved}
use Rattle.roa_origin.proofs.updates.sorted_changes.Goals as goal

pub returns-clause-changes : goal.returns-clause-changes
returns-clause-changes g c =
    listed_moved c.args.vrps.now c.in_ok-changes.changes.items _ c.sort_changes.ensures.permutation
    c.in_ok-changes.ensures
