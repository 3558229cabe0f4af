-- The groups so far are the first ones.
use Rattle.rpki_addr.proofs.Common.{◌-◌, IsSoFar}
use Rattle.rpki_addr.proofs.addr.read.take_groups.Given as goal

abbrev pub invariant-loop-longer : goal.invariant-loop-longer
invariant-loop-longer l = IsSoFar l.max_count l.text l.groups

abbrev pub decreases-loop-longer : goal.decreases-loop-longer
decreases-loop-longer l = l.max_count - l.groups.count
