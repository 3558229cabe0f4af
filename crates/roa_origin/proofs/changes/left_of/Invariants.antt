-- What is kept so far, in order; and before the place all are less than the VRPs to come.
use Rattle.roa_origin.proofs.Common.{vrp_cmp}
use Rattle.roa_origin.proofs.ListDifference.{IsKept}
use Rattle.roa_origin.proofs.changes.left_of.Given as goal

abbrev pub invariant-loop-vrp : goal.invariant-loop-vrp
invariant-loop-vrp g l = IsKept vrp_cmp l.one l.other l.vrp-index l.at l.left.items
