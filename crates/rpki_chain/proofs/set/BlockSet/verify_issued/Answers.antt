use Rattle.rpki_chain.proofs.IssuedClaims.{issued_answers}
use Rattle.rpki_chain.proofs.set.BlockSet.verify_issued.Goals as goal

pub returns : goal.returns
returns g c = issued_answers _ _ c.args.mode c.verify_issued_matched.result c.verify_issued_matched.ensures
