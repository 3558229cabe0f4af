-- The VRPs up to the nearest that covers a route have all that do, and these are in the table's order.
use Rattle.roa_origin.proofs.CoveringVrps.{all_before, are_those, by_length, by_place}
use Rattle.roa_origin.proofs.lookup.Lookup.covering.Goals as goal

pub returns-clause-covering : goal.returns-clause-covering
returns-clause-covering c =
    let near = rw (← c.self.view_is) at c.count_to_nearest.ensures in
    let all = all_before _ _ _ near.within near.none in
    rw (← c.self.view_is, all) (are_those _ _)

pub returns-clause-longest_first : goal.returns-clause-longest_first
returns-clause-longest_first c =
    let h = c.self.invariant in
    let near = rw (← c.self.view_is) at c.count_to_nearest.ensures in
    rw (all_before _ _ _ near.within near.none) (by_length _ _ h.is_prefix h.table.in_order)

pub returns-clause-order : goal.returns-clause-order
returns-clause-order c =
    let h = c.self.invariant in
    let near = rw (← c.self.view_is) at c.count_to_nearest.ensures in
    rw (all_before _ _ _ near.within near.none) (by_place _ _ h.table.in_order)
