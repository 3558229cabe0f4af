-- The chain is the one that is read.
use Rattle.rpki_chain_core.proofs.chain.Chain.contains_block.Goals as goal

pub returns : goal.returns
returns g c = rw c.new.ensures.blocks at c.contains_block.ensures.value
