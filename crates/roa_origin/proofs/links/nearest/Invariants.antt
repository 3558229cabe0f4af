-- Of the VRPs that the walk has passed none covers the prefix, and the next one covers the last VRP.
use Rattle.roa_origin.proofs.Common.{get_or, ◌-◌, ◌<◌, ◌≤◌, CoversPrefix, NoneCovers, Vrp}
use Rattle.roa_origin.proofs.LinkWalks.{steps}
use Rattle.roa_origin.proofs.links.nearest.Given as goal

abbrev pub invariant-loop-at : goal.invariant-loop-at
invariant-loop-at l =
    (l.at ≤ l.from)
    × NoneCovers l.vrps l.route.0 l.at l.from
    × ((d : Vrp) → 0 < l.at
    → CoversPrefix (get_or l.vrps (l.at - 1) d).0.prefix (get_or l.vrps (l.from - 1) d).0.prefix)

-- each turn gets to a shorter prefix
abbrev pub decreases-loop-at : goal.decreases-loop-at
decreases-loop-at l = steps l.vrps l.at
