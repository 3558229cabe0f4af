use Rattle.rpki_chain.proofs.RunLists.{Holds-map}
use Rattle.rpki_chain.proofs.set.BlockSet.contains_item.Goals as goal

pub returns : goal.returns
returns g c = simp (← c.as_chain.ensures.blocks, Holds-map) c.contains_item.ensures
