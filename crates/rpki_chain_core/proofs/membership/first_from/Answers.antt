-- The block that is sought from the first one on is the run, or there is none.
use Rattle.rpki_chain_core.proofs.Common.{arith}
use Rattle.rpki_chain_core.proofs.ChainSearches.{first_found}
use Rattle.rpki_chain_core.proofs.membership.first_from.Goals as goal

pub returns-clause-block : goal.returns-clause-block
returns-clause-block g c =
    let sought = c.seek.ensures in
    first_found g.T.Block.bounds g.T.Block.form _ _ _ (λ k d before lt. sought.passed k d (omega arith) before)
    g.T.Block.number g.T.Block.last _ sought.chain sought.block sought.reaches
