-- At the end all VRPs are in order.
use Rattle.roa_origin.proofs.Common.{arith, refl}
use Rattle.std.proofs.lemmas.List.Sorted.{IsPermutation-refl, length_permutation}
use Rattle.roa_origin.proofs.Insertions.{moved_on, one_alone}
use Rattle.roa_origin.proofs.sorting.sort_nearly.Goals as goal

pub loop-at-init : goal.loop-at-init
loop-at-init c = record {
  ordered = one_alone c.args.vrps.now;
  moved = IsPermutation-refl _;
  kept = refl;
}

pub loop-at-preserved : goal.loop-at-preserved
loop-at-preserved c =
    let moved = moved_on _ _ _ c.loop-at.invariant.moved c.insert-place.ensures.permutation in
    record {
      ordered = c.insert-place.ensures.ordered;
      moved = moved;
      kept = length_permutation _ _ moved;
    }

pub returns-clause-ordered : goal.returns-clause-ordered
returns-clause-ordered c e i j d le less = c.loop-at.invariant.ordered i j d le (omega (arith, less))
