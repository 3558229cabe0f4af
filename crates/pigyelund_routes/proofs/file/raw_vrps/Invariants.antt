-- The VRPs so far are those of the list gone through.
use Rattle.pigyelund_routes.proofs.Common.{map, take, ◌≡◌, handed_of}
use Rattle.pigyelund_routes.proofs.file.raw_vrps.Given as goal

abbrev pub invariant-loop-vrp : goal.invariant-loop-vrp
invariant-loop-vrp l = l.list.items ≡ map handed_of (take l.vrp-index l.fn.vrps)
