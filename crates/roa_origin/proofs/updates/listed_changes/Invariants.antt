-- The changes so far are those of the VRPs gone through, each with its place.
use Rattle.roa_origin.proofs.ChangesAsListed.{AreListed}
use Rattle.roa_origin.proofs.updates.listed_changes.Given as goal

abbrev pub invariant-loop-place : goal.invariant-loop-place
invariant-loop-place g l = AreListed l.vrps l.place l.changes.items
