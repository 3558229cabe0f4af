-- The chains are those that are read.
use Rattle.rpki_chain_core.proofs.chain.Chain.overhang.Goals as goal

pub returns-then-is_far_longer : goal.returns-then-is_far_longer
returns-then-is_far_longer g c =
    rw (c.new.ensures.blocks, c.new-then-is_far_longer.ensures.blocks) at c.overhang_by_binary_search.ensures.value
