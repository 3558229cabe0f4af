-- The pieces so far are what the walk has decided, no more of them than blocks that it is done with.
use Rattle.rpki_chain_core.proofs.Common.{Some, length, ◌+◌, ◌-◌}
use Rattle.rpki_chain_core.proofs.ReadCounts.{IsReader}
use Rattle.rpki_chain_core.proofs.DifferenceWalk.{Walk}
use Rattle.rpki_chain_core.proofs.difference.cut_behind.Given as goal

abbrev pub invariant-loop-cut : goal.invariant-loop-cut
invariant-loop-cut g l =
    let xs = g.X.Reads.blocks l.fn.own in
    let ys = g.Y.Reads.blocks l.fn.other in
    record {
      own : IsReader xs (g.X.Reads.blocks l.own) l.own_at (g.X.Reads.count l.own)
          (g.X.Reads.count l.fn.own + (length xs - (l.fn.own_at + 1)));
      other : IsReader ys (g.Y.Reads.blocks l.other) l.other_at (g.Y.Reads.count l.other)
          (g.Y.Reads.count l.fn.other + (length ys - (l.fn.other_at + 1)));
      walk : Walk g.T.Block.bounds g.T.Block.form g.T.Block.number g.T.Block.first g.T.Block.last xs ys l.own_at
          (Some l.rest) l.other_at (Some l.cut) l.chain.items;
    }

abbrev pub decreases-loop-cut : goal.decreases-loop-cut
decreases-loop-cut g l =
    (length (g.X.Reads.blocks l.fn.own) - l.own_at) + (length (g.Y.Reads.blocks l.fn.other) - l.other_at)
