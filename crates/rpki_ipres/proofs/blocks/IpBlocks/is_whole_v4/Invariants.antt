use Rattle.rpki_ipres.proofs.Common.{take, All, HasWholeBounds, ip_bounds}
use Rattle.rpki_ipres.proofs.blocks.IpBlocks.is_whole_v4.Given as goal

-- the blocks so far have whole bounds
abbrev pub invariant-loop-block : goal.invariant-loop-block
invariant-loop-block g l = All (λ block. HasWholeBounds (ip_bounds block)) (take l.block-index l.blocks)
