-- The order of two sets doesn't matter for what they have in common.
use Rattle.rpki_chain.proofs.IssuedClaims.{common_left}
use Rattle.rpki_chain.proofs.set.BlockSet.intersection.Goals as goal

pub returns-then-as_slice : goal.returns-then-as_slice
returns-then-as_slice g c = common_left _ _ _ c.common_with.ensures
