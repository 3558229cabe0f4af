use Rattle.std.proofs.lemmas.List.Elements.{All-more}
use Rattle.rpki_ipres.proofs.Common.{arith, false, refl, subst, sym, true, ◌∙◌, ◌≡◌, HasWholeBounds, ip_bounds}
use Rattle.rpki_ipres.proofs.WholeRunLemmas.{whole_block, blocks_whole}
use Rattle.rpki_ipres.proofs.blocks.IpBlocks.is_whole_v4.Goals as goal

pub loop-block-preserved : goal.loop-block-preserved
loop-block-preserved g c =
    let whole = c.is_whole_v4.ensures.0 c.if-not-is_whole_v4.false in
    All-more (λ x. HasWholeBounds (ip_bounds x)) _ _ c.block-item.result c.loop-block-test.true c.loop-block.invariant
    (subst (λ x. HasWholeBounds (ip_bounds x)) c.block-item.is whole)

pub returns-then-not-is_whole_v4 : goal.returns-then-not-is_whole_v4
returns-then-not-is_whole_v4 g c =
    let bounds = rw c.self.view_is at c.as_slice-blocks.ensures.blocks in
    let runs = rw c.self.view_is at c.as_slice-blocks.ensures.set.are_runs in
    let no = c.if-not-is_whole_v4.true in (
      λ t. absurd (let z : false ≡ true = t in cc),
      λ whole.
          sym no
          ∙ c.is_whole_v4.ensures.1 (whole_block _ _ c.loop-block.block-index c.block-item.result bounds runs
          c.loop-block-test.true c.block-item.is whole),
    )

pub returns : goal.returns
returns g c =
    let bounds = rw c.self.view_is at c.as_slice-blocks.ensures.blocks in (
      λ t. blocks_whole _ _ c.loop-block.block-index bounds (omega (arith, c.loop-block-test.false))
          c.loop-block.invariant,
      λ whole. refl,
    )
