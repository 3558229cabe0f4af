-- Leniently the readings are one.
use Rattle.rpki_as_block.proofs.Common.{exact_optional_by, next_block_modal, IsNextBlock, as_block_at, next_block_by}
use Rattle.rpki_as_block.proofs.der.block.AsBlockReaderReadNext.take_next.Goals as goal

pub returns-clause-exact : goal.returns-clause-exact
returns-clause-exact c =
    exact_optional_by (IsNextBlock c.args.before) as_block_at (λ strict. next_block_by strict c.args.before)
    (λ block. block) c.args.cursor.now c.next_opt_after.new.cursor c.next_opt_after.result
    (next_block_modal c.args.before) c.next_opt_after.ensures.by_mode
