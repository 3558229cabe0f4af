-- What the loop over the elements keeps.
use Rattle.rpki_as_block.proofs.Common.{length, ◌-◌}
use Rattle.rpki_as_block.proofs.AsBlockListLemmas.{IsSoFar}
use Rattle.rpki_as_block.proofs.list.usual_blocks.Given as goal

-- what is left completes the blocks so far
abbrev pub invariant-loop-block : goal.invariant-loop-block
invariant-loop-block g l = IsSoFar l.start l.text l.blocks.items

abbrev pub decreases-loop-block : goal.decreases-loop-block
decreases-loop-block g l = length l.text - l.start
