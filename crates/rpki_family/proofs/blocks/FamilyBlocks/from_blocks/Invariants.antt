use Rattle.rpki_family.proofs.Common.{take, ◌≡◌, All, ip_bounds, HasBoundsIn}
use Rattle.rpki_family.proofs.blocks.FamilyBlocks.from_blocks.Given as goal

-- the blocks so far, which are the family's
abbrev pub invariant-loop-block : goal.invariant-loop-block
invariant-loop-block g l =
    (l.own.items ≡ take l.block-index l.blocks) × All (λ b. HasBoundsIn g.F.Family.FAMILY (ip_bounds b)) l.own.items
