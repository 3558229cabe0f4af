-- No block leaves the other chain exactly where each lies in it.
use Rattle.rpki_chain_core.proofs.OverhangWalk.{none_leaves}
use Rattle.rpki_chain_core.proofs.chain.Chain.is_encompassed.Goals as goal

pub returns : goal.returns
returns g c =
    none_leaves g.T.Block.bounds g.T.Block.form g.T.Block.number g.T.Block.first g.T.Block.last _ _ _ _
    c.is_none.ensures c.overhang.ensures
