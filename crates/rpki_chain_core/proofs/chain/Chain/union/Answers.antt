-- The chains are those that are read.
use Rattle.rpki_chain_core.proofs.chain.Chain.union.Goals as goal

pub returns-clause-union : goal.returns-clause-union
returns-clause-union g c = rw (c.new.ensures.blocks, c.new-2.ensures.blocks) at c.union_counted.ensures.union
