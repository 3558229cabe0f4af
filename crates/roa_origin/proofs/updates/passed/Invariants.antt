-- Before the place all come earlier.
use Rattle.roa_origin.proofs.Common.{get_or, length, ℕ, ◌-◌, ◌<◌, ◌≤◌, sent_place, Change}
use Rattle.roa_origin.proofs.updates.passed.Given as goal

abbrev pub invariant-loop-at : goal.invariant-loop-at
invariant-loop-at l =
    (l.at ≤ length l.changes)
    × ((k : ℕ) (d : Change) → k < l.at → sent_place (get_or l.changes k d).vrp < sent_place l.vrp)

abbrev pub decreases-loop-at : goal.decreases-loop-at
decreases-loop-at l = length l.changes - l.at
