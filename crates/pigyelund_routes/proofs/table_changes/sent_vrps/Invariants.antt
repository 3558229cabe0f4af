-- the VRPs so far, with those that are left, are all of them
use Rattle.pigyelund_routes.proofs.Common.{◌++◌, ◌≡◌}
use Rattle.pigyelund_routes.proofs.table_changes.sent_vrps.Given as goal

abbrev pub invariant-loop-vrp : goal.invariant-loop-vrp
invariant-loop-vrp l = l.vrps.items ++ l.vrp-iterator ≡ l.initial.vrp-iterator
