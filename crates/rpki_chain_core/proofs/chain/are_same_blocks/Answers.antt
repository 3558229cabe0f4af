-- Blocks with other bounds at one place decide it.
use Rattle.rpki_chain_core.proofs.Common.{arith, nat_tests}
use Rattle.rpki_chain_core.proofs.SortedBlocks.{map_at}
use Rattle.rpki_chain_core.proofs.chain.are_same_blocks.Goals as goal

pub returns-then-not-is_equivalent : goal.returns-then-not-is_equivalent
returns-then-not-is_equivalent g c = grind (arith, map_at, nat_tests)
