-- A chain is the runs of what it covers.
use Rattle.rpki_chain.proofs.Common.{IsChainOf-itself}
use Rattle.rpki_chain.proofs.RunLists.{IsRunsOf-from_chain}
use Rattle.rpki_chain.proofs.set.BlockSet.from_vec_unchecked.Goals as goal

pub returns : goal.returns
returns g c =
    let itself = IsChainOf-itself g.T.Block.bounds g.T.Block.form c.args.blocks.items c.requires in
    rw (c.in_ok-chain.ensures, c.from_vec_unchecked.ensures) (IsRunsOf-from_chain g.T.Block.bounds itself)
