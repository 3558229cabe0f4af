-- Each turn is done with one block, and a block that reaches beyond the other chain is an overhang.
use Rattle.rpki_chain_core.proofs.Common.{None, Some, arith}
use Rattle.rpki_chain_core.proofs.OverhangWalk.{passed_start, passed_next, passed_fit, passed_all, leaves}
use Rattle.rpki_chain_core.proofs.overhang.first_overhang.Goals as goal

pub returns-in_default-read_at-clause-value : goal.returns-in_default-read_at-clause-value
returns-in_default-read_at-clause-value g c =
    let own = c.in-Some.ensures in
    let other = c.in_default-read_at.ensures in
    leaves (passed_start own.chain other.chain) g.T.Block.number _ _ own.block None other.block _ own.valid.0 tt

pub loop-other_at-init : goal.loop-other_at-init
loop-other_at-init g c =
    let walk = passed_start c.in-Some.ensures.chain c.in-Some-read_at.ensures.chain in
    grind (arith)

pub returns-in_default-read_at-2-clause-value : goal.returns-in_default-read_at-2-clause-value
returns-in_default-read_at-2-clause-value g c =
    let inv = c.loop-other_at.invariant in
    let end = rw inv.other.kept at c.in_default-read_at-2.ensures.block in
    let walk = passed_next inv.walk g.T.Block.number _ _ inv.own_block _ inv.other_block c.in-Skip.ensures in
    leaves walk g.T.Block.number _ _ inv.own_block None end _ inv.from_first tt

pub loop-other_at-preserved-in-Skip : goal.loop-other_at-preserved-in-Skip
loop-other_at-preserved-in-Skip g c =
    let inv = c.loop-other_at.invariant in
    let next = rw inv.other.kept at c.in-Some-read_at-2.ensures.block in
    let walk = passed_next inv.walk g.T.Block.number _ _ inv.own_block _ inv.other_block c.in-Skip.ensures in
    grind (arith)

pub returns-in_default-read_at-3-clause-value : goal.returns-in_default-read_at-3-clause-value
returns-in_default-read_at-3-clause-value g c =
    let inv = c.loop-other_at.invariant in
    let end = rw inv.own.kept at c.in_default-read_at-3.ensures.block in
    let walk = passed_fit inv.walk g.T.Block.number _ _ inv.own_block _ inv.other_block c.in-Inside.ensures in
    passed_all walk (omega (arith, end))

pub loop-other_at-preserved : goal.loop-other_at-preserved
loop-other_at-preserved g c =
    let inv = c.loop-other_at.invariant in
    let next = rw inv.own.kept at c.in-Some-read_at-3.ensures.block in
    let walk = passed_fit inv.walk g.T.Block.number _ _ inv.own_block _ inv.other_block c.in-Inside.ensures in
    grind (arith)

pub returns-in-Beyond-clause-value : goal.returns-in-Beyond-clause-value
returns-in-Beyond-clause-value g c =
    let inv = c.loop-other_at.invariant in
    let other = Some c.loop-other_at.other_block in
    leaves inv.walk g.T.Block.number _ _ inv.own_block other inv.other_block _ inv.from_first c.in-Beyond.ensures
