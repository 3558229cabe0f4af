use Rattle.rpki_ip_block.proofs.PrintedBlockLemmas.{reads_block}
use Rattle.rpki_ip_block.proofs.text.IpBlockFromStr.from_str.Goals as goal

pub returns : goal.returns
returns c = reads_block c.args.text.now c.read_block.result c.read_block.ensures
