-- The first block is the run at hand; each turn takes in the next one; and the last run is closed in the end.
use Rattle.rpki_chain_core.proofs.Common.{arith, le_refl, length, numbers, refl, ◌<◌, ◌∙◌, ◌≤◌, get_or-set_other}
use Rattle.rpki_chain_core.proofs.Common.{length-set, take_all, take_more_set}
use Rattle.rpki_chain_core.proofs.RunJoining.{Joined-first, Joined-rises, Joined-next, Joined-covers, closed_run}
use Rattle.rpki_chain_core.proofs.RunJoining.{longer_turn, closed_turn}
use Rattle.rpki_chain_core.proofs.build.join_ascending.Goals as goal

pub loop-at-init : goal.loop-at-init
loop-at-init g c =
    let first = rw c.deref.ensures.value at c.in-Some.ensures.item in
    let bounds = c.bounds-run.ensures in
    record {
      passed = omega arith;
      as_many = refl;
      to_come = λ k d from. refl;
      joined = Joined-first first.3.0 first.1 bounds.min bounds.max bounds.ordered
          bounds.from_first bounds.to_last;
    }

pub run_over-requires-clause-behind : goal.run_over-requires-clause-behind
run_over-requires-clause-behind g c =
    let inv = c.loop-at.invariant in
    let is = c.index.ensures ∙ inv.to_come c.loop-at.at c.index.result.now (le_refl c.loop-at.at) in
    Joined-rises inv.joined (omega (arith, c.loop-at-test.true)) is c.bounds-next.ensures.min c.requires

pub loop-at-preserved-in-Some-run_over : goal.loop-at-preserved-in-Some-run_over
loop-at-preserved-in-Some-run_over g c =
    let number = g.T.Block.number in
    let inv = c.loop-at.invariant in
    let next = c.bounds-next.result in
    let bounds = c.bounds-next.ensures in
    let over = c.in-Some-run_over.ensures in
    let here : c.loop-at.at < length c.args.blocks.now.items = omega (arith, c.loop-at-test.true) in
    let is = c.index.ensures ∙ inv.to_come c.loop-at.at c.index.result.now (le_refl c.loop-at.at) in
    let rises = Joined-rises inv.joined here is bounds.min c.requires in
    record {
      passed = omega (arith, inv.passed);
      as_many = inv.as_many;
      to_come = λ k d above. inv.to_come k d (omega arith);
      joined = Joined-next inv.joined here is _ (numbers number next) _ bounds.min bounds.max bounds.from_first
          bounds.to_last
          (longer_turn number _ c.in-Some-run_over.longer c.loop-at.run next inv.joined.at_hand rises bounds.to_last
          over.from over.to over.over);
    }

pub loop-at-preserved : goal.loop-at-preserved
loop-at-preserved g c =
    let items = c.loop-at.blocks.items in
    let end = c.loop-at.closed in
    let inv = c.loop-at.invariant in
    let next = numbers g.T.Block.number c.bounds-next.result in
    let bounds = c.bounds-next.ensures in
    let new = c.new.result in
    let here : c.loop-at.at < length c.args.blocks.now.items = omega (arith, c.loop-at-test.true) in
    let is = c.index.ensures ∙ inv.to_come c.loop-at.at c.index.result.now (le_refl c.loop-at.at) in
    let room : end < length items = omega (arith, inv) in
    rw take_more_set record {
      passed = omega (arith, inv.passed);
      as_many = length-set items end new ∙ inv.as_many;
      to_come = λ k d above. get_or-set_other items end k new d (λ e. omega arith) ∙ inv.to_come k d (omega arith);
      joined = Joined-next inv.joined here is _ next next bounds.min bounds.max bounds.from_first bounds.to_last
          (closed_turn inv.joined.at_hand c.new.ensures.bounds c.new.ensures.value next bounds.ordered bounds.to_last
          c.in_default-run_over.ensures.apart);
    }

pub returns : goal.returns
returns g c =
    let inv = c.loop-at.invariant in
    let room : c.loop-at.closed < length c.loop-at.blocks.items = omega (arith, inv) in
    let is = c.new-2.ensures.bounds in
    let all : length c.args.blocks.now.items ≤ c.loop-at.at = omega (arith, c.loop-at-test.false) in
    rw (c.truncate.ensures.items, take_more_set) record {
      chain = closed_run inv.joined.at_hand is c.new-2.ensures.value;
      covers = Joined-covers inv.joined is all;
      kind = rw (take_all _ _ all) at inv.joined.of_kind;
    }
