use Rattle.rpki_as.proofs.Common.{arith, ◌+◌, ◌^◌, ◌≤◌}
use Rattle.rpki_as.proofs.AsCountLemmas.{count_fits, count_step}
use Rattle.rpki_as.proofs.blocks.AsBlocks.asn_count.Goals as goal

pub overflow_add-count : goal.overflow_add-count
overflow_add-count g c =
    let fits : c.loop-block.count + c.asn_count-count.result ≤ 2 ^ 32 = count_fits _ _ _ _ _ _
    c.as_slice-blocks.ensures.blocks c.as_slice-blocks.ensures.set c.loop-block-test.true c.block-item.is
    c.loop-block.invariant c.asn_count-count.ensures.from_bounds in
    omega arith

pub loop-block-preserved : goal.loop-block-preserved
loop-block-preserved g c =
    count_step _ _ _ _ _ c.loop-block-test.true c.block-item.is c.loop-block.invariant
    c.asn_count-count.ensures.from_bounds
