-- Each turn takes in the next block; and the last run is closed in the end.
use Rattle.rpki_chain_core.proofs.Common.{arith, nat_tests, numbers, refl, take_all}
use Rattle.rpki_chain_core.proofs.RunJoining.{Joined-first, Joined-rises, Joined-next, Joined-covers, closed_run}
use Rattle.rpki_chain_core.proofs.ascending.join_ascending_into.Goals as goal

pub loop-at-init : goal.loop-at-init
loop-at-init g c =
    let first = c.in-Some.ensures.item in
    let bounds = c.bounds-run.ensures in
    rw c.requires
    (Joined-first {zs = c.args.blocks.now} first.3.0 first.1 bounds.min bounds.max bounds.ordered bounds.from_first
    bounds.to_last)

pub returns-then-lt-clause-ascends : goal.returns-then-lt-clause-ascends
returns-then-lt-clause-ascends g c ascends =
    let rises = Joined-rises c.loop-at.invariant c.loop-at-test.true c.index-blocks-at.is c.bounds-next.ensures.min
    ascends in
    absurd (grind (arith, nat_tests, g.met.T.Block.in_order, g.met.T.Item.Ord.matches_partial_cmp, c.if-lt.ensures))

pub loop-at-preserved : goal.loop-at-preserved
loop-at-preserved g c =
    let next = c.bounds-next in
    let step = c.in_ok-take_in.ensures in
    Joined-next c.loop-at.invariant c.loop-at-test.true c.index-blocks-at.is _
    (numbers g.T.Block.number next.result) _ next.ensures.min next.ensures.max
    next.ensures.from_first next.ensures.to_last
    record { behind = step.run; begins = step.behind; held = step.held }

pub returns : goal.returns
returns g c =
    let joined = c.loop-at.invariant in
    let is = c.new.ensures.bounds in
    rw c.in_ok-push.ensures.items record {
      chain = λ _. closed_run joined.at_hand is c.new.ensures.value;
      covers = λ _. Joined-covers joined is c.loop-at-test.false;
      kind = λ _. rw (take_all _ _ c.loop-at-test.false) at joined.of_kind;
      ascends = λ _. refl;
    }
