-- The VRPs before the index are in order.
use Rattle.roa_origin.proofs.Common.{length, ◌≡◌}
use Rattle.std.specs.List.Sorted.{IsPermutation}
use Rattle.roa_origin.specs.Insertions.{RisesTo}
use Rattle.roa_origin.proofs.sorting.sort_nearly.Given as goal

abbrev pub invariant-loop-at : goal.invariant-loop-at
invariant-loop-at l = record {
  ordered : RisesTo l.at l.vrps;
  moved : IsPermutation l.fn.vrps l.vrps;
  kept : length l.vrps ≡ length l.fn.vrps;
}
