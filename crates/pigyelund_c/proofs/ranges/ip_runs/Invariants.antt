use Rattle.std.proofs.Common.{◌≡◌, ◌++◌, map}
use Rattle.std.specs.Slice.Iter.{iter_rest}
use Rattle.rpki_ip_block.specs.Blocks.{ip_bounds}
use Rattle.pigyelund_c.specs.Ranges.{ip_range}
use Rattle.pigyelund_c.proofs.ranges.ip_runs.Given as given

-- the runs so far, with those of the blocks that are left, are all of them
abbrev pub invariant-loop-block : given.invariant-loop-block
invariant-loop-block l =
    l.list.items ++ map (ip_range l.fn.family) (map ip_bounds (iter_rest l.block-iterator))
    ≡ map (ip_range l.fn.family) (map ip_bounds (iter_rest l.initial.block-iterator))
