-- Nothing is left behind the last block.
use Rattle.std.proofs.Common.{[], ◌≡◌}
use Rattle.std.proofs.lemmas.List.{nil_from_length}
use Rattle.std.specs.Slice.Iter.{iter_rest}
use Rattle.rpki_ip_block.specs.Blocks.{ip_bounds}
use Rattle.pigyelund_c.specs.Ranges.{ip_range}
use Rattle.pigyelund_c.proofs.RangeLemmas.{all_done}
use Rattle.pigyelund_c.proofs.ranges.ip_runs.Goals as goal

pub returns : goal.returns
returns c =
    let rest = iter_rest c.loop-block.block-iterator in
    let empty : rest ≡ [] = nil_from_length rest c.in-None.ensures.steps.0 in
    let done =
    all_done ip_bounds (ip_range c.args.family) c.loop-block.list.items rest _ empty c.loop-block.invariant in
    let begun = c.into_iter-block-iterator.ensures.into_iter_gives in
    cc (done, begun, c.iter-block-items.ensures.blocks)
