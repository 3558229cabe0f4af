use Rattle.rpki_family.proofs.Common.{[], ap, subst, sym, take, ◌++◌, ◌∙◌, ◌∷◌, take_more, All-push, All, ip_bounds}
use Rattle.rpki_family.proofs.Common.{IpBlock, HasBoundsIn}
use Rattle.rpki_family.proofs.FamilyLemmas.{cover_in}
use Rattle.rpki_family.proofs.blocks.FamilyBlocks.from_blocks.Goals as goal

pub loop-block-preserved : goal.loop-block-preserved
loop-block-preserved g c =
    let fits = λ (b : IpBlock). HasBoundsIn g.F.Family.FAMILY (ip_bounds b) in
    let blocks = c.args.blocks.now in
    let i = c.loop-block.block-index in
    let more = take_more blocks i c.block-item.result c.loop-block-test.true
    ∙ ap (λ y. take i blocks ++ y ∷ []) (sym c.block-item.is) in
    let pushed = rw (c.loop-block.invariant.0, c.to_block.ensures.value) at c.in_ok-push.ensures.items in
    let all =
    All-push fits c.loop-block.own.items c.to_block.result c.loop-block.invariant.1 c.to_block.ensures.bounds in
    (pushed ∙ sym more, subst (All fits) (sym c.in_ok-push.ensures.items) all)

pub of-requires : goal.of-requires
of-requires g c = cover_in g.F.Family.FAMILY _ _ c.loop-block.invariant.1 c.in_ok-blocks.ensures
