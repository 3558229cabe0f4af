use Rattle.rpki_as.proofs.Common.{length, take, ◌≡◌, numbers_of}
use Rattle.rpki_as.proofs.blocks.AsBlocks.asn_count.Given as goal

-- the count is that of the numbers of the blocks so far
abbrev pub invariant-loop-block : goal.invariant-loop-block
invariant-loop-block g l = l.count ≡ length (numbers_of (take l.block-index l.blocks))
