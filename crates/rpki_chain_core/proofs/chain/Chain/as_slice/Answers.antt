-- The blocks of a view are the one chain of what they cover, and the shortest list with this cover.
use Rattle.rpki_chain_core.proofs.Chains.{IsChainOf-itself, IsChain-from}
use Rattle.rpki_chain_core.proofs.ShortestChain.{IsChain-shortest}
use Rattle.rpki_chain_core.proofs.UniqueChain.{IsChain-unique}
use Rattle.rpki_chain_core.proofs.chain.Chain.as_slice.Goals as goal

pub returns-clause-chain : goal.returns-clause-chain
returns-clause-chain g c = IsChainOf-itself g.T.Block.bounds g.T.Block.form _ c.args.self.is_chain

pub returns-clause-only : goal.returns-clause-only
returns-clause-only g c blocks chain =
    IsChain-unique g.T.Block.bounds g.T.Block.form blocks _ (IsChain-from _ g.T.Block.form blocks _ chain)
    c.args.self.is_chain chain.covers

pub returns-clause-shortest : goal.returns-clause-shortest
returns-clause-shortest g c blocks = IsChain-shortest g.T.Block.bounds g.T.Block.form _ blocks c.args.self.is_chain
