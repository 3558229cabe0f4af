-- Each turn keeps the rest at hand; at the end nothing is left.
use Rattle.rpki_chain_core.proofs.Common.{None, Some, arith, inr, refl, le_refl, ◌<◌, numbers}
use Rattle.rpki_chain_core.proofs.ReadCounts.{reader_next}
use Rattle.rpki_chain_core.proofs.DifferenceWalk.{keeps_all, keeps_done, keeps_on, keeps_start}
use Rattle.rpki_chain_core.proofs.WalkSides.{IsAt-from}
use Rattle.rpki_chain_core.proofs.difference.keep_rest.Goals as goal

pub loop-chain-init : goal.loop-chain-init
loop-chain-init g c = record {
  own = record { kept = refl; reads = le_refl _ };
  keeps = keeps_start c.len-len.ensures.chain c.requires.behind c.requires.rest;
  from = le_refl _;
  few = le_refl _;
}

pub loop-chain-preserved : goal.loop-chain-preserved
loop-chain-preserved g c =
    let inv = c.loop-chain.invariant in
    let from = inv.from in
    let few = inv.few in
    let within = inv.keeps.rest_is.within in
    let read = c.in-Some.ensures in
    let new = c.new.ensures in
    let on = reader_next g.T.Block.bounds g.T.Block.number g.T.Block.last _ _ _ _ (Some _) _ _ _ inv.own read.block
    read.kept read.counted in
    let at = IsAt-from g.T.Block.bounds g.T.Block.number g.T.Block.last _ _ (Some c.in-Some.next) on.1 in
    let next = Some (numbers g.T.Block.number c.in-Some.next) in
    let more = keeps_all inv.keeps c.new.result next new.bounds new.value (λ n late t. inr (t, omega arith)) at in
    let beyond : g.T.Block.number c.loop-chain.rest.0 < g.T.Block.number c.in-Some.next.0 =
    keeps_on inv.keeps next at in
    rw c.in_ok-push.ensures.items record { own = on.0; keeps = more.0; from = omega arith; few = omega (arith, more.1) }

pub from_vec_unchecked-requires : goal.from_vec_unchecked-requires
from_vec_unchecked-requires g c =
    let inv = c.loop-chain.invariant in
    let from = inv.from in
    let new = c.new.ensures in
    let end = rw inv.own.kept at c.in_default.ensures.block in
    rw c.in_ok-push.ensures.items
    (keeps_all inv.keeps c.new.result None new.bounds new.value (λ n late t. inr (t, omega arith)) end).0.kept.chain

pub returns-clause-chain : goal.returns-clause-chain
returns-clause-chain g c =
    let inv = c.loop-chain.invariant in
    let from = inv.from in
    let new = c.new.ensures in
    let end = rw inv.own.kept at c.in_default.ensures.block in
    rw (c.from_vec_unchecked.ensures, c.in_ok-push.ensures.items) (keeps_done
    (keeps_all inv.keeps c.new.result None new.bounds new.value (λ n late t. inr (t, omega arith)) end).0)
