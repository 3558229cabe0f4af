use Rattle.rpki_chain.proofs.RunLists.{Holds-map}
use Rattle.rpki_chain.proofs.set.BlockSet.contains.Goals as goal

pub returns : goal.returns
returns g c = simp (← c.as_chain.ensures.blocks, ← c.as_chain-2.ensures.blocks, Holds-map) c.is_encompassed.ensures
