-- What the reading gives is the value of the grammar of the mode.
use Rattle.rpki_der.proofs.SequenceCursors.{reads_optional_value_by}
use Rattle.rpki_der.proofs.ReadingModes.{exact_optional_by, refused_optional_by}
use Rattle.rpki_as_block.proofs.Common.{IsAsBlock, as_block_reading, as_block_modal, IsStrictBlock, as_block_at}
use Rattle.rpki_as_block.proofs.Common.{as_block_by}
use Rattle.rpki_as_block.proofs.block.AsBlock.take_opt_from.Goals as goal

pub returns-clause-exact : goal.returns-clause-exact
returns-clause-exact c =
    exact_optional_by IsStrictBlock as_block_at as_block_by (λ block. block) c.args.cursor.now
    c.take_opt_from_by_mode.new.cursor c.take_opt_from_by_mode.result as_block_modal
    c.take_opt_from_by_mode.ensures.by_mode

pub returns-clause-reads : goal.returns-clause-reads
returns-clause-reads c lenient =
    reads_optional_value_by IsAsBlock as_block_at c.args.cursor.now c.take_opt_from_by_mode.new.cursor
    c.take_opt_from_by_mode.result as_block_reading c.args.cursor.now.bytes (returns-clause-exact c lenient)

pub returns-clause-refused : goal.returns-clause-refused
returns-clause-refused c =
    refused_optional_by IsAsBlock IsStrictBlock as_block_at as_block_by (λ block. block) c.args.cursor.now
    c.take_opt_from_by_mode.new.cursor c.take_opt_from_by_mode.result as_block_reading as_block_modal
    c.take_opt_from_by_mode.ensures.by_mode
