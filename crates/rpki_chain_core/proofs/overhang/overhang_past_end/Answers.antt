-- Each turn passes a block of the one chain that the held block of the other has, or holds the next one.
use Rattle.rpki_chain_core.proofs.Common.{Some, arith, sym, ◌∙◌, nat_tests}
use Rattle.std.proofs.lemmas.List.{nil_from_length}
use Rattle.rpki_chain_core.proofs.OverhangWalk.{held_at, leaves, passed_all, passing_end, passing_fit, passing_skip}
use Rattle.rpki_chain_core.proofs.OverhangWalk.{passing_start}
use Rattle.rpki_chain_core.proofs.overhang.overhang_past_end.Goals as goal

pub returns-in_default : goal.returns-in_default
returns-in_default g c =
    let none = nil_from_length _ (sym c.iter-others.ensures.len ∙ c.in_default.ensures.steps.0) in
    rw none c.first_of.ensures

pub loop-own_at-init : goal.loop-own_at-init
loop-own_at-init g c =
    let read = c.bounds-held.ensures in
    let is = sym c.iter-others.ensures.rest ∙ c.in-Some.ensures.steps in
    passing_start c.requires.own_chain c.requires.other_chain is read.min read.max read.to_last

pub loop-held-init : goal.loop-held-init
loop-held-init g c =
    let read = c.bounds-min.ensures in
    let x = c.index-own-own_at in
    record {
      own = held_at g.T.Block.bounds g.T.Block.number g.T.Block.last _ _ x.result _ c.loop-own_at-test.true x.is
          read.min read.max read.to_last;
      passing = c.loop-own_at.invariant;
    }

pub returns-in_default-next : goal.returns-in_default-next
returns-in_default-next g c =
    let inv = c.loop-held.invariant in
    passing_end inv.passing _ inv.own _ c.bounds-min.ensures.from_first
    (grind (arith, nat_tests, g.met.T.Block.in_order, g.met.T.Item.Ord.matches_partial_cmp))
    c.in_default-next.ensures.steps.0

pub loop-held-preserved : goal.loop-held-preserved
loop-held-preserved g c =
    let inv = c.loop-held.invariant in
    let read = c.bounds-held-in-loop-held.ensures in
    record {
      own = inv.own;
      passing = passing_skip inv.passing _ inv.own _ _ _
          (grind (arith, nat_tests, g.met.T.Block.in_order, g.met.T.Item.Ord.matches_partial_cmp))
          c.in-Some-next.ensures.steps read.min read.max read.to_last;
    }

pub returns-then-lt : goal.returns-then-lt
returns-then-lt g c =
    let inv = c.loop-held.invariant in
    rw c.as_slice.ensures.value (leaves inv.passing.walk g.T.Block.number _ _ inv.own (Some c.loop-held.held)
    inv.passing.held _ c.bounds-min.ensures.from_first
    (grind (arith, nat_tests, g.met.T.Block.in_order, g.met.T.Item.Ord.matches_partial_cmp, c.then-lt.branch)))

pub loop-own_at-preserved : goal.loop-own_at-preserved
loop-own_at-preserved g c =
    let inv = c.loop-held.invariant in
    passing_fit inv.passing _ inv.own
    (grind (arith, nat_tests, g.met.T.Block.in_order, g.met.T.Item.Ord.matches_partial_cmp))

pub returns : goal.returns
returns g c = passed_all c.loop-own_at.invariant.walk c.loop-own_at-test.false
