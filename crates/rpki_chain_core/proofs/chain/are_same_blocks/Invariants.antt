-- The bounds passed are the same.
use Rattle.rpki_chain_core.proofs.Common.{map, take, ◌≡◌}
use Rattle.rpki_chain_core.proofs.chain.are_same_blocks.Given as goal

abbrev pub invariant-loop-i : goal.invariant-loop-i
invariant-loop-i g l = map g.T.Block.bounds (take l.i l.some) ≡ map g.T.Block.bounds (take l.i l.others)
