use Rattle.pigyelund_routes.proofs.Common.{take, AreEach, IsVrp}
use Rattle.pigyelund_routes.proofs.origin.vrps_of.Given as goal

-- the VRPs so far are read
abbrev pub invariant-loop-at : goal.invariant-loop-at
invariant-loop-at l = AreEach IsVrp (take l.at l.fn.vrps) l.read.items
