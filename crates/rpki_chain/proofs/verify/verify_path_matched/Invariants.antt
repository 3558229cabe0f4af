-- what the steps that are done with left is known, and no step so far was refused
use Rattle.rpki_chain.proofs.Common.{Holds}
use Rattle.rpki_chain.proofs.PathSteps.{IsPassed}
use Rattle.rpki_chain.proofs.verify.verify_path_matched.Given as goal

abbrev pub invariant-loop-at : goal.invariant-loop-at
invariant-loop-at g l = IsPassed g.R.BlockClaim.claim (Holds l.fn.root) l.fn.steps l.at l.done l.known
