use Rattle.rpki_ip.proofs.Common.{family_written}
use Rattle.rpki_ip.proofs.PrefixDerWritten.{prefix_written, range_written}
use Rattle.rpki_ip.proofs.der.laws.written.Goals as goal

pub returns : goal.returns
returns c = record { family = family_written; prefix = prefix_written; range = range_written }
