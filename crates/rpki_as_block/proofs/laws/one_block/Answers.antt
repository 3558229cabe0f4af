-- The grammar of blocks has a reading.
use Rattle.rpki_as_block.proofs.Common.{one_front, IsAsBlock, as_block_reading, as_block_at}
use Rattle.rpki_as_block.proofs.laws.one_block.Goals as goal

pub returns : goal.returns
returns c = one_front IsAsBlock as_block_at as_block_reading
