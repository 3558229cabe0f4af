-- The chains are those that are read.
use Rattle.rpki_chain_core.proofs.chain.Chain.difference.Goals as goal

pub returns-clause-difference : goal.returns-clause-difference
returns-clause-difference g c =
    rw (c.new.ensures.blocks, c.new-2.ensures.blocks) at c.difference_counted.ensures.difference
