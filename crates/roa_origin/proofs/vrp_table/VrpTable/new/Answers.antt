-- What is sorted and freed of duplicates is in order, and has the VRPs of the list.
use Rattle.roa_origin.proofs.Common.{vrp_cmp}
use Rattle.roa_origin.proofs.SortedLists.{ascending, members}
use Rattle.roa_origin.proofs.VrpOrder.{equal_where_the_same, ties, total}
use Rattle.roa_origin.specs.Tables.{IsTableOf}
use Rattle.roa_origin.proofs.vrp_table.VrpTable.new.Given as given
use Rattle.roa_origin.proofs.vrp_table.VrpTable.new.Goals as goal

table : (g : given.Over) (c : goal.After-dedup g) → IsTableOf c.args.vrps.now c.dedup.new.self.items
table g c =
    let equal = equal_where_the_same c.equal_where_the_same.ensures.max_len in
    let moved = rw c.in_ok-table.ensures at c.sort_unstable.ensures.permutation in record {
      ascending = ascending vrp_cmp total ties _ equal _ _ c.sort_unstable.ensures.sorted c.dedup.ensures.filtered;
      members = members vrp_cmp total ties _ equal _ _ _ moved c.dedup.ensures.filtered;
    }

pub invariant_of-result : goal.invariant_of-result
invariant_of-result g c = (table g c).ascending

pub returns : goal.returns
returns g c = table g c
