use Rattle.rpki_chain.proofs.RunLists.{excess_runs}
use Rattle.rpki_chain.proofs.SetLemmas.{IsBlockChain-part, made}
use Rattle.rpki_chain.proofs.set.BlockSet.difference.Goals as goal

pub from_owned-requires : goal.from_owned-requires
from_owned-requires g c = IsBlockChain-part c.as_chain.ensures.chain c.in_ok-chain.ensures.difference

pub returns : goal.returns
returns g c =
    made c.from_owned.result c.from_owned.ensures
    (excess_runs _ _ c.as_chain.ensures.blocks c.as_chain-2.ensures.blocks c.in_ok-chain.ensures.difference)
