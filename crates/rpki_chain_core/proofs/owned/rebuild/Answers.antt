-- What is made of a block's bounds has these bounds; and a block in new form, made anew, is the same.
use Rattle.rpki_chain_core.proofs.Common.{arith, take_more}
use Rattle.rpki_chain_core.proofs.SortedBlocks.{map_push_taken}
use Rattle.rpki_chain_core.proofs.owned.rebuild.Goals as goal

pub loop-block-preserved : goal.loop-block-preserved
loop-block-preserved g c = grind (arith, map_push_taken, take_more)
