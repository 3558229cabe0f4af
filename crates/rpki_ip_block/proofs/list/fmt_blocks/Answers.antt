use Rattle.rpki_ip_block.proofs.Common.{refl, ip_block_text}
use Rattle.rpki_ip_block.proofs.list.fmt_blocks.Goals as goal

pub returns : goal.returns
returns g c = c.fmt_elements.ensures (ip_block_text c.args.family) (λ block. refl)
