-- The block at hand is the one at the index.
use Rattle.rpki_chain_core.proofs.Common.{Some, HoldsBlock}
use Rattle.rpki_chain_core.proofs.overhang.reached_back_from.Given as goal

abbrev pub invariant-loop-at : goal.invariant-loop-at
invariant-loop-at g l =
    HoldsBlock g.T.Block.bounds g.T.Block.number g.T.Block.last l.chain l.at (Some l.reached)

abbrev pub decreases-loop-at : goal.decreases-loop-at
decreases-loop-at g l = l.at
