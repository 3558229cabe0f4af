-- The builder has the bounds of the blocks.
use Rattle.rpki_theorem.proofs.Common.{IfOk-weaker}
use Rattle.rpki_theorem.proofs.NumberLemmas.{built_of_blocks}
use Rattle.rpki_theorem.proofs.sets.built.Goals as goal

pub returns : goal.returns
returns g c =
    IfOk-weaker c.finalize.result _ _
    (λ set h. built_of_blocks g.T.Block.bounds _ _ c.args.blocks.now set c.new-builder.ensures
    c.in_ok-extend_from.ensures.ok h)
    c.finalize.ensures
