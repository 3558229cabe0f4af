use Rattle.pigyelund_routes.proofs.Common.{map, ◌++◌, ◌≡◌, handed_of}
use Rattle.pigyelund_routes.proofs.table.all_vrps.Given as goal

-- the VRPs so far, with those that are left, are all of them
abbrev pub invariant-loop-vrp : goal.invariant-loop-vrp
invariant-loop-vrp l = l.list.items ++ map handed_of l.vrp-iterator ≡ map handed_of l.initial.vrp-iterator
