-- The builder has the bounds of the blocks.
use Rattle.rpki_theorem.proofs.Common.{IfOk-weaker}
use Rattle.rpki_theorem.proofs.NumberLemmas.{built_of_blocks}
use Rattle.rpki_as_block.specs.Blocks.{as_bounds}
use Rattle.rpki_theorem.proofs.numbers.built.Goals as goal

pub returns : goal.returns
returns g c =
    IfOk-weaker c.finalize.result _ _
    (λ set h. built_of_blocks as_bounds _ _ c.args.blocks.now set c.new-builder.ensures c.in_ok-extend_from.ensures.ok
    h)
    c.finalize.ensures
