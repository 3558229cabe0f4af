-- the set and each step so far leave the listed numbers
use Rattle.rpki_chain.proofs.Common.{take, ℕ, Holds, IsLeft}
use Rattle.rpki_chain.proofs.verify.is_within_left.Given as goal

abbrev pub invariant-loop-step : goal.invariant-loop-step
invariant-loop-step g l =
    (n : ℕ) → Holds l.fn.listed n → IsLeft g.R.BlockClaim.claim (Holds l.fn.set) (take l.step-index l.fn.steps) n
