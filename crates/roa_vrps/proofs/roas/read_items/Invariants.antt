-- What was found, or the fault, is that of the items before.
use Rattle.roa_vrps.proofs.Common.{AreItemsRead, Json, List, items, length, list_of, value, ◌≤◌}
use Rattle.roa_vrps.proofs.JsonLemmas.{AreReadSo}
use Rattle.roa_vrps.proofs.roas.read_items.Given as goal

abbrev pub invariant-loop-alloc : goal.invariant-loop-alloc
invariant-loop-alloc g l = record {
  read :
      (js : List Json) × AreReadSo (items (value l.depth)) list_of l.initial.reader l.reader js
      × AreItemsRead l.asked js l.found l.fault;
  within : length l.reader ≤ length l.initial.reader;
}

abbrev pub decreases-loop-alloc : goal.decreases-loop-alloc
decreases-loop-alloc g l = length l.reader
