-- The VRPs up to the index are in order, except for the one that moves.
use Rattle.roa_origin.proofs.Common.{length, ◌≡◌}
use Rattle.std.specs.List.Sorted.{IsPermutation}
use Rattle.roa_origin.specs.Insertions.{IsInserting}
use Rattle.roa_origin.proofs.sorting.insert.Given as goal

abbrev pub invariant-loop-place : goal.invariant-loop-place
invariant-loop-place l = record {
  order : IsInserting l.vrps l.place l.at;
  moved : IsPermutation l.fn.vrps l.vrps;
  kept : length l.vrps ≡ length l.fn.vrps;
}

abbrev pub decreases-loop-place : goal.decreases-loop-place
decreases-loop-place l = l.place
