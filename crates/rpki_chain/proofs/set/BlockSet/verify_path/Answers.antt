use Rattle.rpki_chain.proofs.PathSteps.{path_answers}
use Rattle.rpki_chain.proofs.set.BlockSet.verify_path.Goals as goal

pub returns : goal.returns
returns g c =
    path_answers g.R.BlockClaim.claim _ c.args.steps.now c.verify_path_matched.result c.verify_path_matched.ensures
