-- The changes of the tables as a cache sends them are those of the tables.
use Rattle.pigyelund_routes.proofs.TableChangeLemmas.{without}
use Rattle.pigyelund_routes.proofs.table_changes.changes_between.Goals as goal

pub returns : goal.returns
returns c =
    let changes = c.in_ok-changes.ensures in
    record {
      announced_are = (
        c.in_ok-changes.changes.announced,
        without _ _ _ _ _ c.in_ok-after.ensures c.in_ok-before.ensures changes.announced,
        rw c.as_slice.ensures.value at c.in_ok-announced.ensures,
      );
      withdrawn_are = (
        c.in_ok-changes.changes.withdrawn,
        without _ _ _ _ _ c.in_ok-before.ensures c.in_ok-after.ensures changes.withdrawn,
        rw c.as_slice-2.ensures.value at c.in_ok-withdrawn.ensures,
      );
    }
