-- Each turn is at a block; where the one before it ends before the item, so do all before it.
use Rattle.rpki_chain_core.proofs.Common.{Some, ap, arith, nat_tests, ℕ, ◌-◌, ◌<◌, HoldsBlock}
use Rattle.rpki_chain_core.proofs.OverhangWalk.{all_before, held_at}
use Rattle.rpki_chain_core.proofs.overhang.reached_back_from.Goals as goal

pub loop-at-init : goal.loop-at-init
loop-at-init g c =
    let read = c.bounds-reached.ensures in
    let x = c.index-chain-end in
    held_at g.T.Block.bounds g.T.Block.number g.T.Block.last _ _ x.result _ c.requires.end x.is read.min read.max
    read.to_last

pub loop-at-preserved : goal.loop-at-preserved
loop-at-preserved g c =
    let read = c.bounds-block.ensures in
    let x = c.index-chain-before in
    let within = c.loop-at.invariant.0 in
    held_at g.T.Block.bounds g.T.Block.number g.T.Block.last _ _ x.result _ (omega arith) x.is read.min read.max
    read.to_last

pub returns-then-lt-clause-passed : goal.returns-then-lt-clause-passed
returns-then-lt-clause-passed g c = λ k d lt.
    let read = c.bounds-block.ensures in
    let x = c.index-chain-before in
    let within = c.loop-at.invariant.0 in
    let less : g.T.Block.number c.bounds-block.result.1 < g.T.Block.number c.args.item = grind
    (arith, nat_tests, g.met.T.Block.in_order, g.met.T.Item.Ord.matches_partial_cmp) in
    let holds : HoldsBlock g.T.Block.bounds g.T.Block.number g.T.Block.last c.args.chain.now (c.loop-at.at - 1)
    (Some c.bounds-block.result) = held_at g.T.Block.bounds g.T.Block.number g.T.Block.last _ _ x.result _ (omega arith)
    x.is read.min read.max read.to_last in
    all_before c.requires.chain (c.loop-at.at - 1) _ (omega arith)
    (λ e. (let high = ap (λ (p : ℕ × ℕ). p.1) (holds.1 e) in omega arith)) k d (omega arith)
