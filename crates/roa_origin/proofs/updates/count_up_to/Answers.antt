-- The search parts the VRPs that come no later from the others.
use Rattle.roa_origin.proofs.Common.{arith, rules, table_place}
use Rattle.roa_origin.proofs.SortedSearch.{counted_to}
use Rattle.roa_origin.proofs.updates.count_up_to.Goals as goal

pub returns : goal.returns
returns c =
    let bound = c.partition_point.ensures.bound in
    let counted = counted_to c.partition_point.ensures.partitioned table_place (table_place c.args.vrp.now)
    c.requires.ranked (λ a r q k. search rules) in
    grind (arith, counted.before, counted.from)
