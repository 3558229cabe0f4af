-- Each turn takes in the block that begins first; where one chain ends, what is left of the other is taken in.
use Rattle.rpki_chain_core.proofs.Common.{arith, ◌≤◌, nat_tests}
use Rattle.rpki_chain_core.proofs.UnionWalk.{walk_turn, walk_waits, walks_end, walks_start}
use Rattle.rpki_chain_core.proofs.union.union_behind.Goals as goal

pub loop-chain-init : goal.loop-chain-init
loop-chain-init g c =
    let first = c.earlier-run.ensures in
    let start = walks_start c.len-own_len.ensures.chain c.len-other_len.ensures.chain c.requires.own
    c.requires.other first.begins first.begins_other first.one _ _ in
    rw c.requires.empty record { own = start.0; other = start.1 }

pub returns-in_default-clause-union : goal.returns-in_default-clause-union
returns-in_default-clause-union g c =
    let inv = c.loop-chain.invariant in
    let step = c.in_ok-take_in.ensures in
    walks_end inv.own record { behind = step.run; begins = step.behind; held = step.held }
    c.in_default.ensures.block _
    (rw inv.other.reader.kept at c.close_with.ensures.chain)

pub loop-chain-preserved-then-le : goal.loop-chain-preserved-then-le
loop-chain-preserved-then-le g c =
    let inv = c.loop-chain.invariant in
    let step = c.in_ok-take_in.ensures in
    let read = c.in-Some.ensures in
    let first : g.T.Block.number c.loop-chain.own_block.0 ≤ g.T.Block.number c.loop-chain.other_block.0 = grind
    (arith, nat_tests, g.met.T.Block.in_order, g.met.T.Item.Ord.matches_partial_cmp, c.if-le.ensures) in
    record {
      own = walk_turn inv.own record { behind = step.run; begins = step.behind; held = step.held } _
          c.in-Some.next _ read.block read.kept read.counted;
      other = walk_waits inv.own record { behind = step.run; begins = step.behind; held = step.held } inv.other first;
    }

pub returns-in_default-read_at-clause-union : goal.returns-in_default-read_at-clause-union
returns-in_default-read_at-clause-union g c =
    let inv = c.loop-chain.invariant in
    let step = c.in_ok-take_in-2.ensures in
    walks_end inv.other record { behind = step.run; begins = step.behind; held = step.held }
    c.in_default-read_at.ensures.block _
    (rw inv.own.reader.kept at c.close_with-in_default-read_at.ensures.chain)

pub loop-chain-preserved : goal.loop-chain-preserved
loop-chain-preserved g c =
    let inv = c.loop-chain.invariant in
    let step = c.in_ok-take_in-2.ensures in
    let read = c.in-Some-read_at.ensures in
    let first : g.T.Block.number c.loop-chain.other_block.0 ≤ g.T.Block.number c.loop-chain.own_block.0 = grind
    (arith, nat_tests, g.met.T.Block.in_order, g.met.T.Item.Ord.matches_partial_cmp, c.if-le.ensures) in
    record {
      own = walk_waits inv.other record { behind = step.run; begins = step.behind; held = step.held } inv.own first;
      other = walk_turn inv.other record { behind = step.run; begins = step.behind; held = step.held } _
          c.in-Some-read_at.next _ read.block read.kept read.counted;
    }
