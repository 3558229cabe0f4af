-- The walk gives what is in either set.
use Rattle.rpki_base.proofs.Common.{subst, IsSmallSet}
use Rattle.rpki_base.proofs.SmallSetLemmas.{union_is}
use Rattle.rpki_base.proofs.small_set.SmallAsnSet.union.Goals as goal

pub returns-clause-set : goal.returns-clause-set
returns-clause-set g c =
    union_is _ _ (subst IsSmallSet c.self.view_is c.self.invariant)
    (subst IsSmallSet c.other.view_is c.other.invariant) _ cc
