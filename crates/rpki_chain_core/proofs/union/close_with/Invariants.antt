-- The run at hand begins no later than the block at hand, and nothing is lost.
use Rattle.rpki_chain_core.proofs.Common.{drop, length, ◌+◌, ◌-◌, ◌⊎◌, IsInChainOrRun, Covers, numbers}
use Rattle.rpki_chain_core.proofs.UnionWalk.{Walk}
use Rattle.rpki_chain_core.proofs.union.close_with.Given as goal

abbrev pub invariant-loop-chain : goal.invariant-loop-chain
invariant-loop-chain g l =
    let f = g.T.Block.bounds in
    let number = g.T.Block.number in
    let xs = g.R.Reads.blocks l.fn.rest in
    Walk f g.T.Block.form number g.T.Block.last
    (λ n. IsInChainOrRun f l.fn.chain.items (numbers number l.fn.run) n ⊎ Covers f (drop l.fn.at xs) n) (λ _. ⊥) xs
    (g.R.Reads.blocks l.rest) l.at (g.R.Reads.count l.rest) (g.R.Reads.count l.fn.rest + (length xs - (l.fn.at + 1)))
    l.block l.run l.chain.items

abbrev pub decreases-loop-chain : goal.decreases-loop-chain
decreases-loop-chain g l = length (g.R.Reads.blocks l.fn.rest) - l.at
