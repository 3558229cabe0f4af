use Rattle.rpki_chain.proofs.PathSteps.{left_more}
use Rattle.rpki_chain.proofs.verify.left_of.Goals as goal

pub loop-step-preserved : goal.loop-step-preserved
loop-step-preserved g c =
    left_more g.R.BlockClaim.claim _ c.args.steps.now c.loop-step.step-index _ c.in_ok-left-2.left c.step-item.result _
    c.loop-step.invariant c.loop-step-test.true c.step-item.is c.claimed.ensures c.in_ok-left-2.ensures
