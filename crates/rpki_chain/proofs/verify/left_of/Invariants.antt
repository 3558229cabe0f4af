-- the steps so far left what is left
use Rattle.rpki_chain.proofs.Common.{take, Holds, IsLeft, IsRunsOf}
use Rattle.rpki_chain.proofs.verify.left_of.Given as goal

abbrev pub invariant-loop-step : goal.invariant-loop-step
invariant-loop-step g l =
    IsRunsOf (IsLeft g.R.BlockClaim.claim (Holds l.fn.set) (take l.step-index l.fn.steps)) l.left
