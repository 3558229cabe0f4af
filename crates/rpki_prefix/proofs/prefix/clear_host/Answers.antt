use Rattle.rpki_prefix.proofs.Common.{arith}
use Rattle.rpki_prefix.proofs.HostBits.{cleared_by}
use Rattle.rpki_prefix.proofs.prefix.clear_host.Goals as goal

pub returns-in-V4-clause-value : goal.returns-in-V4-clause-value
returns-in-V4-clause-value c = grind (arith, cleared_by 32 c.to_bits.result c.args.len c.host_mask-mask.result)

pub returns-in-V6-clause-value : goal.returns-in-V6-clause-value
returns-in-V6-clause-value c = grind (arith, cleared_by 128 c.to_bits-in-V6.result c.args.len c.host_mask-mask.result)
