-- Up to the place, from the first one on, all are less.
use Rattle.roa_origin.proofs.Common.{length, slice_index_or, ℕ, ◌-◌, ◌<◌, ◌≡◌, ◌≤◌, Less, Vrp, vrp_cmp}
use Rattle.roa_origin.proofs.changes.not_less.Given as goal

abbrev pub invariant-loop-at : goal.invariant-loop-at
invariant-loop-at l =
    (l.fn.from ≤ l.at) × (l.at ≤ length l.vrps)
    × ((k : ℕ) (d : Vrp) → l.fn.from ≤ k → k < l.at → vrp_cmp (slice_index_or l.vrps k d) l.vrp ≡ Less)

abbrev pub decreases-loop-at : goal.decreases-loop-at
decreases-loop-at l = length l.vrps - l.at
