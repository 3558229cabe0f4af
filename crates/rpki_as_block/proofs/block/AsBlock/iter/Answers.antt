use Rattle.rpki_as_block.proofs.IntervalNumberLemmas.{IsListOf-numbers_within}
use Rattle.rpki_as_block.proofs.block.AsBlock.iter.Goals as goal

pub returns-clause-numbers : goal.returns-clause-numbers
returns-clause-numbers c =
    rw (c.over.ensures, c.new.ensures, c.min.ensures.value, c.max.ensures.value) (IsListOf-numbers_within _)
