-- The walk gives what is in one set alone.
use Rattle.rpki_base.proofs.Common.{subst, IsSmallSet}
use Rattle.rpki_base.proofs.SmallSetLemmas.{symmetric_difference_is}
use Rattle.rpki_base.proofs.small_set.SmallAsnSet.symmetric_difference.Goals as goal

pub returns-clause-set : goal.returns-clause-set
returns-clause-set g c =
    symmetric_difference_is _ _ (subst IsSmallSet c.self.view_is c.self.invariant)
    (subst IsSmallSet c.other.view_is c.other.invariant) _ cc
