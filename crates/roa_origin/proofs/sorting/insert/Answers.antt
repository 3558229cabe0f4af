-- The VRP passes each that comes after it, and stops behind one that does not.
use Rattle.roa_origin.proofs.Common.{arith, length, refl, sym, ◌<◌, ◌∙◌, ◌≡◌}
use Rattle.std.proofs.lemmas.List.Sorted.{IsPermutation-refl}
use Rattle.roa_origin.proofs.Insertions.{begun, first, moved_on, passed, stopped}
use Rattle.roa_origin.proofs.sorting.insert.Goals as goal

pub loop-place-init : goal.loop-place-init
loop-place-init c = record {
  order = begun c.args.vrps.now c.args.at c.requires.ordered;
  moved = IsPermutation-refl _;
  kept = refl;
}

pub returns-then-is_up_to-clause-ordered : goal.returns-then-is_up_to-clause-ordered
returns-then-is_up_to-clause-ordered c =
    let there : c.args.at < length c.loop-place.vrps = omega arith in
    stopped _ _ _ _ _ c.loop-place.invariant.order c.loop-place-test.true there c.index-vrps-place.is
    c.index-vrps-place-in-loop-place.is (sym c.is_up_to.ensures ∙ c.if-is_up_to.true)

pub loop-place-preserved : goal.loop-place-preserved
loop-place-preserved c =
    let there : c.args.at < length c.loop-place.vrps = omega arith in
    record {
      order =
          passed _ _ _ _ _ c.loop-place.invariant.order c.loop-place-test.true there c.index-vrps-place.is
          c.index-vrps-place-in-loop-place.is (sym c.is_up_to.ensures ∙ c.if-is_up_to.false) _ c.swap.ensures.by_index;
      moved = moved_on _ _ _ c.loop-place.invariant.moved c.swap.ensures.permutation;
      kept = c.swap.ensures.len ∙ c.loop-place.invariant.kept;
    }

pub returns-clause-ordered : goal.returns-clause-ordered
returns-clause-ordered c =
    let none : c.loop-place.place ≡ 0 = omega arith in
    first _ _ _ c.loop-place.invariant.order none
