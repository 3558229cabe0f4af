-- Before the place the first bits write less.
use Rattle.roa_origin.proofs.Common.{get_or, length, ℕ, ◌-◌, ◌<◌, ◌≤◌, Vrp, first_bits}
use Rattle.roa_origin.proofs.starts.start_from.Given as goal

abbrev pub invariant-loop-at : goal.invariant-loop-at
invariant-loop-at l =
    (l.at ≤ length l.vrps)
    × ((k : ℕ) (d : Vrp) → k < l.at → first_bits l.bits (get_or l.vrps k d).0.prefix < l.number)

abbrev pub decreases-loop-at : goal.decreases-loop-at
decreases-loop-at l = length l.vrps - l.at
