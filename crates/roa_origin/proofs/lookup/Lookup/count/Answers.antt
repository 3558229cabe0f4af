-- What comes no later than the prefix is what is before the first index, and what the search parts behind it.
use Rattle.roa_origin.proofs.Common.{rules, ◌+◌, ◌≤◌, IsNonDecreasingBy-drop, IsNonDecreasingBy-take, length, ◌-◌}
use Rattle.roa_origin.proofs.Common.{AreLater, AreUpTo, place, vrp_place}
use Rattle.roa_origin.proofs.FirstBits.{counted_between}
use Rattle.roa_origin.proofs.SortedSearch.{counted_to}
use Rattle.roa_origin.proofs.lookup.Lookup.count.Goals as goal

counted : (c : goal.After-partition_point) → let i = c.self.inside in let n = i.from + c.partition_point.result in
    (n ≤ length i.vrps.now) × AreUpTo i.vrps.now n i.route.0 × AreLater i.vrps.now n i.route.0
counted c =
    let i = c.self.inside in
    let h = c.self.invariant in
    let ordered = IsNonDecreasingBy-drop vrp_place i.from _ h.table.in_order.ordered in
    counted_between h.between c.partition_point.result c.partition_point.ensures.bound
    (counted_to c.partition_point.ensures.partitioned vrp_place (place i.route.0)
    (IsNonDecreasingBy-take vrp_place (i.to - i.from) _ ordered) (λ a r q k. search rules))

pub returns-clause-up_to : goal.returns-clause-up_to
returns-clause-up_to c = rw (← c.self.view_is) (counted c).1

pub returns-clause-later : goal.returns-clause-later
returns-clause-later c = rw (← c.self.view_is) (counted c).2
