use Rattle.rpki_chain.proofs.Common.{refl}
use Rattle.rpki_chain.proofs.SetLawLemmas.{common_inside}
use Rattle.rpki_chain.proofs.SetLemmas.{made}
use Rattle.rpki_chain.proofs.set.BlockSet.common_with.Goals as goal

pub returns-in-Ok : goal.returns-in-Ok
returns-in-Ok g c =
    let own = c.clone.ensures in
    made c.clone.result own.same (common_inside _ _ own.set.are_runs (c.in-Ok.ensures.ok.0 refl))
