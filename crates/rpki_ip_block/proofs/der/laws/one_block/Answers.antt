-- The grammar of blocks has a reading.
use Rattle.rpki_ip_block.proofs.Common.{one_front, IsIpBlockDer, ip_block_at, ip_block_reading}
use Rattle.rpki_ip_block.proofs.der.laws.one_block.Goals as goal

pub returns : goal.returns
returns c = λ limit. one_front (IsIpBlockDer limit) (ip_block_at limit) (ip_block_reading limit)
