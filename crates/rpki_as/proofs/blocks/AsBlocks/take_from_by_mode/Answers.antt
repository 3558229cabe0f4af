-- What a strict cursor gave is the runs of its set as they stand.
use Rattle.rpki_as.proofs.Common.{sym, ◌∙◌}
use Rattle.rpki_chain.proofs.BlocksInModes.{chain_read}
use Rattle.rpki_as.proofs.AsSetDerLemmas.{blocks}
use Rattle.rpki_as.proofs.blocks.AsBlocks.take_from_by_mode.Goals as goal

pub from_vec_unchecked-requires : goal.from_vec_unchecked-requires
from_vec_unchecked-requires g c =
    chain_read blocks c.args.cursor.now c.in_ok-blocks.blocks.items _
    (sym c.is_strict.ensures.mode ∙ c.if-is_strict.true) c.in_ok-blocks.ensures.by_mode
