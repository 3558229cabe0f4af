use Rattle.rpki_chain.proofs.SetLemmas.{same_runs_decides, numbers_decided, IsBlockSet-from_chain}
use Rattle.rpki_chain.proofs.set.BlockSetPartialEq.eq.Goals as goal

pub returns-clause-same : goal.returns-clause-same
returns-clause-same g c =
    rw (c.eq.ensures.value, c.as_chain.ensures.blocks, c.as_chain-2.ensures.blocks)
    (same_runs_decides c.args.self.now c.args.other.now)

pub returns-clause-numbers : goal.returns-clause-numbers
returns-clause-numbers g c =
    let own = IsBlockSet-from_chain c.as_chain.ensures.chain c.as_chain.ensures.blocks in
    let other = IsBlockSet-from_chain c.as_chain-2.ensures.chain c.as_chain-2.ensures.blocks in
    numbers_decided _ c.args.self.now c.args.other.now own.are_runs other.are_runs (returns-clause-same g c)
