-- What was joined is the chain of what the blocks covered.
use Rattle.rpki_chain_core.proofs.Chains.{IsChainOf-from}
use Rattle.rpki_chain_core.proofs.owned.OwnedChain.from_vec.Goals as goal

pub returns-clause-chain : goal.returns-clause-chain
returns-clause-chain g c =
    rw c.from_vec_unchecked.ensures
    (IsChainOf-from g.T.Block.bounds g.T.Block.form _ _ c.join.ensures.chain c.join.ensures.covers)
