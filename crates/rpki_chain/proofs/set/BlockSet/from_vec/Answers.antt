use Rattle.rpki_chain.proofs.RunLists.{IsRunsOf-from_chain}
use Rattle.rpki_chain.proofs.SetLemmas.{IsBlockChain-of_kind}
use Rattle.rpki_chain.proofs.set.BlockSet.from_vec.Goals as goal

pub invariant_of-result : goal.invariant_of-result
invariant_of-result g c = IsBlockChain-of_kind c.in_ok-chain.ensures.chain c.in_ok-chain.ensures.kind

pub returns : goal.returns
returns g c = IsRunsOf-from_chain g.T.Block.bounds c.in_ok-chain.ensures.chain
