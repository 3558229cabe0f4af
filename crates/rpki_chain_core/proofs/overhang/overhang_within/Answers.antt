-- Each turn passes a block of the one chain that the held block of the other has, or holds the next one.
use Rattle.rpki_chain_core.proofs.Common.{ap, arith, drop, length, nat_tests, ◌<◌, ◌∙◌}
use Rattle.std.proofs.lemmas.List.{drop-drop}
use Rattle.rpki_chain_core.proofs.OverhangWalk.{next_one, passed_all, reaching_fit, reaching_leaves, reaching_more}
use Rattle.rpki_chain_core.proofs.OverhangWalk.{reaching_skip}
use Rattle.rpki_chain_core.proofs.overhang.overhang_within.Goals as goal

pub bounds-others-0-in-loop-held : goal.bounds-others-0-in-loop-held
bounds-others-0-in-loop-held g c =
    let inv = c.loop-held.invariant in
    rw c.split_at.ensures.back (reaching_more inv.reaching _ inv.own c.requires.ends
    (grind (arith, nat_tests, g.met.T.Block.in_order, g.met.T.Item.Ord.matches_partial_cmp)))

pub loop-held-preserved : goal.loop-held-preserved
loop-held-preserved g c =
    let inv = c.loop-held.invariant in
    let back = c.split_at.ensures.back in
    let read = c.bounds-held-in-loop-held.ensures in
    let less : g.T.Block.number c.loop-held.held.1 < g.T.Block.number c.bounds-min.result.1 = grind
    (arith, nat_tests, g.met.T.Block.in_order, g.met.T.Item.Ord.matches_partial_cmp) in
    let some : 0 < length c.split_at.result.1.now = rw back (reaching_more inv.reaching _ inv.own c.requires.ends
    less) in
    record {
      own = inv.own;
      some = some;
      reaching = reaching_skip inv.reaching _ inv.own _ _ _ less
          (next_one c.loop-held.others.now _ _ back some c.index-others-0-in-loop-held.is) read.min read.max
          read.to_last;
    }

pub returns-then-lt : goal.returns-then-lt
returns-then-lt g c =
    let inv = c.loop-held.invariant in
    let back = c.reached_back_from-other_at.ensures in
    reaching_leaves inv.reaching _ inv.own _ _ _ c.bounds-min.ensures.from_first
    (grind (arith, nat_tests, g.met.T.Block.in_order, g.met.T.Item.Ord.matches_partial_cmp))
    (grind (arith, nat_tests, g.met.T.Block.in_order, g.met.T.Item.Ord.matches_partial_cmp)) back.block back.passed

pub loop-own_at-preserved : goal.loop-own_at-preserved
loop-own_at-preserved g c =
    let inv = c.loop-held.invariant in
    record {
      rest = c.split_at-in-loop-own_at.ensures.back ∙ ap (drop 1) c.loop-own_at.invariant.rest
          ∙ drop-drop 1 c.loop-own_at.own_at c.args.own.now;
      some = inv.some;
      reaching = reaching_fit inv.reaching _ inv.own
          (grind (arith, nat_tests, g.met.T.Block.in_order, g.met.T.Item.Ord.matches_partial_cmp));
    }

pub returns : goal.returns
returns g c = passed_all c.loop-own_at.invariant.reaching.walk c.loop-own_at-test.false
