-- The chains are those that are read.
use Rattle.rpki_chain_core.proofs.chain.Chain.trim.Goals as goal

pub returns-clause-ok : goal.returns-clause-ok
returns-clause-ok g c = rw (c.new.ensures.blocks, c.new-2.ensures.blocks) at c.trim_counted.ensures.ok

pub returns-clause-refused : goal.returns-clause-refused
returns-clause-refused g c = rw (c.new.ensures.blocks, c.new-2.ensures.blocks) at c.trim_counted.ensures.refused
