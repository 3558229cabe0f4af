use Rattle.rpki_as.proofs.Common.{refl, as_block_text}
use Rattle.rpki_as.proofs.blocks.AsBlocksDisplay.fmt.Goals as goal

pub returns-clause-writes : goal.returns-clause-writes
returns-clause-writes g c =
    rw (← c.self.view_is, ← c.as_slice.ensures.made) (c.fmt_joined.ensures as_block_text (λ b. refl))
