-- The VRPs before that have not expired, and those after that have not, are all of them.
use Rattle.roa_vrps.proofs.Common.{drop, unexpired_of, ◌++◌, ◌≡◌}
use Rattle.roa_vrps.proofs.expiry.unexpired.Given as goal

abbrev pub invariant-loop-index : goal.invariant-loop-index
invariant-loop-index g l =
    l.kept.items ++ unexpired_of l.time (drop l.index l.vrps) (drop l.index l.expiries)
    ≡ unexpired_of l.time l.vrps l.expiries
