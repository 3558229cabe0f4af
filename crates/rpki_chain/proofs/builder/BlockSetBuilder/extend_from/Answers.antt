-- One block more, made anew.
use Rattle.rpki_chain.proofs.Common.{arith, ◌∙◌}
use Rattle.rpki_chain.proofs.RunLists.{added_next}
use Rattle.rpki_chain.proofs.builder.BlockSetBuilder.extend_from.Goals as goal

pub loop-block-preserved : goal.loop-block-preserved
loop-block-preserved g c =
    let pushed = c.push_reserved.ensures in
    let same = c.new.ensures.bounds ∙ (λ i. (c.bounds-min.ensures.min i, c.bounds-min.ensures.max i)) in
    record {
      fits = omega (arith, c.loop-block-test.true, c.loop-block.invariant.fits, pushed.len, pushed.capacity);
      added = rw pushed.items (added_next g.T.Block.bounds _ _ _ _ _ _ c.loop-block.invariant.added
          c.loop-block-test.true c.block-item.is same);
    }
