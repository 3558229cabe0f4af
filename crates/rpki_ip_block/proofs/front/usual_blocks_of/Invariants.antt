-- What the loop over the elements keeps.
use Rattle.rpki_ip_block.proofs.Common.{length}
use Rattle.rpki_ip_block.proofs.BlockListFronts.{IsSoFar}
use Rattle.rpki_ip_block.proofs.front.usual_blocks_of.Given as goal

-- what is left completes the blocks so far
abbrev pub invariant-loop-block : goal.invariant-loop-block
invariant-loop-block g l = IsSoFar g.F.FamilyAddr.family l.text l.left l.blocks.items

abbrev pub decreases-loop-block : goal.decreases-loop-block
decreases-loop-block g l = length l.left
