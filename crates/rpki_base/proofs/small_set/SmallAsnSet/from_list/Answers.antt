-- What is sorted and freed of repeats is the set of the list.
use Rattle.rpki_base.proofs.SmallSetLemmas.{from_list_is}
use Rattle.rpki_base.proofs.small_set.SmallAsnSet.from_list.Goals as goal

pub invariant_of-result : goal.invariant_of-result
invariant_of-result g c =
    let sorted = c.sort_unstable.ensures in
    (from_list_is _ _ _ sorted.permutation sorted.sorted c.dedup.ensures.filtered).ascending

pub returns : goal.returns
returns g c =
    let sorted = c.sort_unstable.ensures in
    let moved = rw c.in_ok-items.ensures.items at sorted.permutation in
    from_list_is _ _ _ moved sorted.sorted c.dedup.ensures.filtered
