-- What the walk has passed of the one chain lies in the other.
use Rattle.rpki_chain_core.proofs.Common.{Some, length, ◌+◌, ◌-◌, ◌<◌, ◌^◌, ◌≤◌, HoldsBlock}
use Rattle.rpki_chain_core.proofs.ReadCounts.{IsReader}
use Rattle.rpki_chain_core.proofs.OverhangWalk.{Passed}
use Rattle.rpki_chain_core.proofs.overhang.first_overhang.Given as goal

abbrev pub invariant-loop-other_at : goal.invariant-loop-other_at
invariant-loop-other_at g l =
    let xs = g.X.Reads.blocks l.fn.own in
    let ys = g.Y.Reads.blocks l.fn.other in
    record {
      own : IsReader xs (g.X.Reads.blocks l.own) l.own_at (g.X.Reads.count l.own)
          (g.X.Reads.count l.fn.own + length xs);
      other : IsReader ys (g.Y.Reads.blocks l.other) l.other_at (g.Y.Reads.count l.other)
          (g.Y.Reads.count l.fn.other + length ys);
      walk : Passed g.T.Block.bounds g.T.Block.form xs ys l.own_at l.other_at;
      own_block : HoldsBlock g.T.Block.bounds g.T.Block.number g.T.Block.last xs l.own_at (Some l.own_block);
      other_block : HoldsBlock g.T.Block.bounds g.T.Block.number g.T.Block.last ys l.other_at (Some l.other_block);
      from_first : g.T.Block.first ≤ g.T.Block.number l.own_block.0;
      own_bound : length xs < 2 ^ 64;
      other_bound : length ys < 2 ^ 64;
    }

abbrev pub decreases-loop-other_at : goal.decreases-loop-other_at
decreases-loop-other_at g l =
    (length (g.X.Reads.blocks l.fn.own) - l.own_at) + (length (g.Y.Reads.blocks l.fn.other) - l.other_at)
