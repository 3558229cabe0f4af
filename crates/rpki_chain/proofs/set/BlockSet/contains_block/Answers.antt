use Rattle.rpki_chain.proofs.RunLists.{Holds-map}
use Rattle.rpki_chain.proofs.set.BlockSet.contains_block.Goals as goal

pub returns : goal.returns
returns g c = simp (← c.as_chain.ensures.blocks, Holds-map) c.contains_block.ensures
