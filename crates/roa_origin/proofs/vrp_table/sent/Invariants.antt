-- The VRPs so far, as they are sent.
use Rattle.roa_origin.proofs.Common.{map, take, ◌≡◌, as_sent}
use Rattle.roa_origin.proofs.vrp_table.sent.Given as goal

abbrev pub invariant-loop-vrp : goal.invariant-loop-vrp
invariant-loop-vrp g l = l.list.items ≡ map as_sent (take l.vrp-index l.vrps)
