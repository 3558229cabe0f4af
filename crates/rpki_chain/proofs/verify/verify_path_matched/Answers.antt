use Rattle.rpki_chain.proofs.Common.{arith, refl}
use Rattle.rpki_chain.proofs.PathSteps.{accepted_passed, all_passed, none_passed, step_refused, unrefused_passed}
use Rattle.rpki_chain.proofs.verify.verify_path_matched.Goals as goal

pub loop-at-init : goal.loop-at-init
loop-at-init g c =
    let one = c.in_ok-known.ensures in
    none_passed g.R.BlockClaim.claim _ c.args.steps.now c.in_ok-known.known c.args.root.now one.same one.set.are_runs

pub loop-at-preserved-in_default : goal.loop-at-preserved-in_default
loop-at-preserved-in_default g c =
    unrefused_passed g.R.BlockClaim.claim _ c.args.steps.now c.loop-at.at _ _ c.loop-at.invariant
    c.index-steps-at.result
    c.loop-at-test.true c.index-steps-at.is _ c.claimed.ensures (c.in_default.ensures.none refl)

pub loop-at-preserved : goal.loop-at-preserved
loop-at-preserved g c =
    let one = c.in_ok-known-in-Ok.ensures in
    let (lists, refuse) = c.in-Some.ensures.some in
    rw one.same
    (accepted_passed g.R.BlockClaim.claim _ c.args.steps.now c.loop-at.at _ _ c.loop-at.invariant
    c.index-steps-at.result
    c.loop-at-test.true c.index-steps-at.is _ c.claimed.ensures c.in-Some.listed.now lists refuse one.set.are_runs
    c.in-Ok.ensures)

pub returns-in-Err-Refused : goal.returns-in-Err-Refused
returns-in-Err-Refused g c =
    let ensured = rw c.in-Err-Refused.field-0-is at c.in-Err-Refused.ensures in
    let (lists, refuse) = c.in-Some.ensures.some in
    rw c.in-Err-Refused.fault-is
    (step_refused g.R.BlockClaim.claim _ c.args.steps.now c.loop-at.at _ _ c.loop-at.invariant c.index-steps-at.result
    c.loop-at-test.true c.index-steps-at.is _ c.claimed.ensures _ lists refuse _ ensured)

pub returns : goal.returns
returns g c =
    all_passed g.R.BlockClaim.claim _ c.args.steps.now _ _ _ c.loop-at.invariant _ (omega (arith, c.loop-at-test.false))
    c.in_ok-left_of.ensures
