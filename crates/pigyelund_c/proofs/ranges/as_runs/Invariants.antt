use Rattle.std.proofs.Common.{◌≡◌, ◌++◌, map}
use Rattle.std.specs.Slice.Iter.{iter_rest}
use Rattle.rpki_as_block.specs.Blocks.{as_bounds}
use Rattle.pigyelund_c.specs.Ranges.{as_range}
use Rattle.pigyelund_c.proofs.ranges.as_runs.Given as given

-- the runs so far, with those of the blocks that are left, are all of them
abbrev pub invariant-loop-block : given.invariant-loop-block
invariant-loop-block l =
    l.list.items ++ map as_range (map as_bounds (iter_rest l.block-iterator))
    ≡ map as_range (map as_bounds (iter_rest l.initial.block-iterator))
