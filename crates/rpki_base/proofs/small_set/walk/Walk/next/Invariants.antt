-- The numbers that were passed over aren't wanted.
use Rattle.rpki_base.proofs.Common.{length, ◌+◌, ◌≡◌, walk}
use Rattle.rpki_base.proofs.small_set.walk.Walk.next.Given as goal

abbrev pub invariant-loop-step : goal.invariant-loop-step
invariant-loop-step l =
    walk l.wanted l.initial.self.left.now l.initial.self.right.now ≡ walk l.wanted l.self.left.now l.self.right.now

-- what is left of both lists
abbrev pub decreases-loop-step : goal.decreases-loop-step
decreases-loop-step l = length l.self.left.now + length l.self.right.now
