use Rattle.rpki_ip_block.proofs.Common.{Ipv4}
use Rattle.rpki_ip_block.proofs.PrintedBlockLemmas.{block_back}
use Rattle.rpki_ip_block.proofs.block.IpBlock.from_v4_str.Goals as goal

pub returns-clause-reads_back : goal.returns-clause-reads_back
returns-clause-reads_back c = block_back Ipv4 c.args.text.now c.read_block.result c.read_block.ensures
