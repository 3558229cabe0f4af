-- One bit more at each turn, and 20 at most.
use Rattle.roa_origin.proofs.Common.{◌-◌, ◌≤◌}
use Rattle.roa_origin.proofs.starts.bits_for.Given as goal

abbrev pub invariant-loop-bits : goal.invariant-loop-bits
invariant-loop-bits l = (1 ≤ l.bits) × (l.bits ≤ 20)

abbrev pub decreases-loop-bits : goal.decreases-loop-bits
decreases-loop-bits l = 20 - l.bits
