use Rattle.rpki_chain.proofs.Common.{Holds, arith, refl}
use Rattle.rpki_chain.proofs.PathSteps.{IsLeft-all, IsLeft-more, Leaves-at}
use Rattle.rpki_chain.proofs.verify.is_within_left.Goals as goal

pub returns-then-not-contains : goal.returns-then-not-contains
returns-then-not-contains g c = (
  λ found. grind arith,
  λ inside.
      let within = c.contains.ensures.1 (λ n held. (inside n held).0) in
      grind (arith, within, c.if-not-contains.true),
)

pub returns-then-not-leaves : goal.returns-then-not-leaves
returns-then-not-leaves g c = (
  λ found. grind arith,
  λ inside.
      let leaves = c.leaves.ensures.1
      (λ n held. rw c.claimed.ensures
      (Leaves-at g.R.BlockClaim.claim (Holds c.args.set.now) c.args.steps.now c.loop-step.step-index c.step-item.result
      c.loop-step-test.true c.step-item.is n (inside n held))) in
      grind (arith, leaves, c.if-not-leaves.true),
)

pub loop-step-preserved : goal.loop-step-preserved
loop-step-preserved g c = λ n held.
    let leaves = rw c.claimed.ensures at (c.leaves.ensures.0 (grind (arith, c.if-not-leaves.false)) n held) in
    (IsLeft-more g.R.BlockClaim.claim (Holds c.args.set.now) c.args.steps.now c.loop-step.step-index c.step-item.result
    c.loop-step-test.true c.step-item.is n).0 (c.loop-step.invariant n held, leaves)

pub returns : goal.returns
returns g c = (
  λ found n held.
      (IsLeft-all g.R.BlockClaim.claim (Holds c.args.set.now) c.args.steps.now c.loop-step.step-index
      (omega (arith, c.loop-step-test.false)) n).0 (c.loop-step.invariant n held),
  λ inside. refl,
)
