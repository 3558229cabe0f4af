-- Each turn takes in the block at hand; at the end the run is closed, and nothing is left.
use Rattle.rpki_chain_core.proofs.RunJoining.{closed_run}
use Rattle.rpki_chain_core.proofs.UnionWalk.{walk_alone, walk_turn, walk_closed}
use Rattle.rpki_chain_core.proofs.union.close_with.Goals as goal

pub loop-chain-init : goal.loop-chain-init
loop-chain-init g c = walk_alone _ c.requires.run c.len-len.ensures.chain c.requires.block c.requires.behind

pub loop-chain-preserved : goal.loop-chain-preserved
loop-chain-preserved g c =
    let step = c.in_ok-take_in.ensures in
    let read = c.in-Some.ensures in
    walk_turn c.loop-chain.invariant record { behind = step.run; begins = step.behind; held = step.held } _
    c.in-Some.next _ read.block read.kept read.counted

pub from_vec_unchecked-requires : goal.from_vec_unchecked-requires
from_vec_unchecked-requires g c =
    rw c.in_ok-push.ensures.items
    (closed_run c.in_ok-take_in.ensures.run c.new.ensures.bounds c.new.ensures.value)

pub returns-clause-chain : goal.returns-clause-chain
returns-clause-chain g c =
    let step = c.in_ok-take_in.ensures in
    rw (c.from_vec_unchecked.ensures, c.in_ok-push.ensures.items)
    (walk_closed c.loop-chain.invariant record { behind = step.run; begins = step.behind; held = step.held }
    c.in_default.ensures.block (λ n no. no) c.new.ensures.bounds c.new.ensures.value)
