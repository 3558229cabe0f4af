-- The blocks so far are what the chains have in common up to the blocks at hand.
use Rattle.rpki_chain_core.proofs.Common.{Some, length, ◌+◌, ◌-◌}
use Rattle.rpki_chain_core.proofs.ReadCounts.{IsReader}
use Rattle.rpki_chain_core.proofs.IntersectionWalk.{Meet}
use Rattle.rpki_chain_core.proofs.intersection.push_behind.Given as goal

abbrev pub invariant-loop-other_block : goal.invariant-loop-other_block
invariant-loop-other_block g l =
    let xs = g.X.Reads.blocks l.fn.own in
    let ys = g.Y.Reads.blocks l.fn.other in
    record {
      own : IsReader xs (g.X.Reads.blocks l.own) l.own_at (g.X.Reads.count l.own)
          (g.X.Reads.count l.fn.own + (length xs - (l.fn.own_at + 1)));
      other : IsReader ys (g.Y.Reads.blocks l.other) l.other_at (g.Y.Reads.count l.other)
          (g.Y.Reads.count l.fn.other + (length ys - (l.fn.other_at + 1)));
      walk : Meet g.T.Block.bounds g.T.Block.form g.T.Block.number g.T.Block.last xs ys l.own_at (Some l.own_block)
          l.other_at (Some l.other_block) l.chain.items;
    }

abbrev pub decreases-loop-other_block : goal.decreases-loop-other_block
decreases-loop-other_block g l =
    (length (g.X.Reads.blocks l.fn.own) - l.own_at) + (length (g.Y.Reads.blocks l.fn.other) - l.other_at)
