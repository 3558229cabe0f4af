-- Each block completes those so far, and the last ends the list.
use Rattle.rpki_ip_block.proofs.BlockListFronts.{all_read, less_left, one_more}
use Rattle.rpki_ip_block.proofs.front.usual_blocks_of.Goals as goal

pub returns-then-is_end : goal.returns-then-is_end
returns-then-is_end g c =
    rw c.in_ok-push.ensures.items
    (all_read _ _ _ _ _ c.skip_space.ensures c.in-Some.ensures _ _ c.loop-block.invariant
    (c.is_end.ensures c.if-is_end.true))

pub loop-block-preserved : goal.loop-block-preserved
loop-block-preserved g c =
    rw c.in_ok-push.ensures.items
    (one_more _ _ _ _ _ c.skip_space.ensures c.in-Some.ensures _ _ _ c.loop-block.invariant
    c.in-Some-strip_byte.ensures)

pub loop-block-smaller : goal.loop-block-smaller
loop-block-smaller g c = less_left _ _ _ _ _ c.skip_space.ensures c.in-Some.ensures _ c.in-Some-strip_byte.ensures
