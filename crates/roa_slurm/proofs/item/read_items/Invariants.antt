-- The items before are read.
use Rattle.roa_slurm.proofs.Common.{length, take, ◌≡◌, items_view, AreEntries}
use Rattle.roa_slurm.proofs.item.read_items.Given as goal

abbrev pub invariant-loop-item : goal.invariant-loop-item
invariant-loop-item g l = record {
  listed : AreEntries g.T.SlurmItem.is_item (items_view (take l.item-index l.item-items)) l.values.items;
  count : length l.values.items ≡ l.item-index;
}
