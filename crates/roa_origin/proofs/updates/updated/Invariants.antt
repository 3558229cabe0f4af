-- So far the list has what is kept of the VRPs gone through, and what was announced, in order.
use Rattle.roa_origin.proofs.Common.{length, ◌+◌, ◌-◌}
use Rattle.roa_origin.proofs.TableUpdates.{IsSoFar}
use Rattle.roa_origin.proofs.updates.updated.Given as goal

abbrev pub invariant-loop-at : goal.invariant-loop-at
invariant-loop-at g l = IsSoFar l.table l.withdrawn l.announced l.at l.gone l.come l.next.items

abbrev pub decreases-loop-at : goal.decreases-loop-at
decreases-loop-at g l = length l.table - l.at + (length l.announced - l.come)
