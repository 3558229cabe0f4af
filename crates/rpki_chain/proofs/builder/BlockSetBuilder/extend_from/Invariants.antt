-- The blocks passed were added, each made anew, and the capacity is enough for the others.
use Rattle.rpki_chain.proofs.Common.{length, map, take, vec_len, ◌++◌, ◌+◌, ◌-◌, ◌≡◌, ◌≤◌}
use Rattle.std.specs.Vec.{vec_capacity}
use Rattle.rpki_chain.proofs.builder.BlockSetBuilder.extend_from.Given as goal

abbrev pub invariant-loop-block : goal.invariant-loop-block
invariant-loop-block g l = record {
  fits : vec_len l.self-inside.blocks + (length l.blocks - l.block-index) ≤ vec_capacity l.self-inside.blocks;
  added : map g.T.Block.bounds l.self-inside.blocks.items
      ≡ l.fn.self ++ map g.T.Block.bounds (take l.block-index l.blocks);
}
