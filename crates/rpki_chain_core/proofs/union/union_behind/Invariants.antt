-- The run at hand begins no later than the blocks at hand, and nothing is lost.
use Rattle.rpki_chain_core.proofs.Common.{drop, length, ◌+◌, ◌-◌, ◌⊎◌, Covers}
use Rattle.rpki_chain_core.proofs.UnionWalk.{Walk}
use Rattle.rpki_chain_core.proofs.union.union_behind.Given as goal

abbrev pub invariant-loop-chain : goal.invariant-loop-chain
invariant-loop-chain g l =
    let f = g.T.Block.bounds in
    let form = g.T.Block.form in
    let number = g.T.Block.number in
    let last = g.T.Block.last in
    let xs = g.X.Reads.blocks l.fn.own in
    let ys = g.Y.Reads.blocks l.fn.other in
    record {
      own : Walk f form number last (λ n. Covers f xs n ⊎ Covers f ys n) (λ n. Covers f (drop l.other_at ys) n) xs
          (g.X.Reads.blocks l.own) l.own_at (g.X.Reads.count l.own) (g.X.Reads.count l.fn.own + (length xs - 1))
          l.own_block l.run l.chain.items;
      other : Walk f form number last (λ n. Covers f xs n ⊎ Covers f ys n) (λ n. Covers f (drop l.own_at xs) n) ys
          (g.Y.Reads.blocks l.other) l.other_at (g.Y.Reads.count l.other) (g.Y.Reads.count l.fn.other + (length ys - 1))
          l.other_block l.run l.chain.items;
    }

abbrev pub decreases-loop-chain : goal.decreases-loop-chain
decreases-loop-chain g l =
    (length (g.X.Reads.blocks l.fn.own) - l.own_at) + (length (g.Y.Reads.blocks l.fn.other) - l.other_at)
