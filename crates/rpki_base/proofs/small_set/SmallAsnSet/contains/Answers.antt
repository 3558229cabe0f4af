-- The search finds just the numbers of the set.
use Rattle.rpki_base.proofs.Common.{subst, ◌∙◌, IsSmallSet}
use Rattle.rpki_base.proofs.SmallSetLemmas.{search_is}
use Rattle.rpki_base.proofs.small_set.SmallAsnSet.contains.Goals as goal

pub returns : goal.returns
returns g c =
    let items = c.as_slice.ensures.value ∙ c.self.view_is in
    let found = rw items at c.binary_search.ensures.position in
    let ascending = subst IsSmallSet c.self.view_is c.self.invariant in
    rw c.is_ok.ensures.value (search_is _ _ _ ascending found)
