-- The walk gives what is in both sets.
use Rattle.rpki_base.proofs.Common.{subst, IsSmallSet}
use Rattle.rpki_base.proofs.SmallSetLemmas.{intersection_is}
use Rattle.rpki_base.proofs.small_set.SmallAsnSet.intersection.Goals as goal

pub returns-clause-set : goal.returns-clause-set
returns-clause-set g c =
    intersection_is _ _ (subst IsSmallSet c.self.view_is c.self.invariant)
    (subst IsSmallSet c.other.view_is c.other.invariant) _ cc
