use Rattle.rpki_ipres.proofs.FamilyWritten.{family_as_numbers}
use Rattle.rpki_ipres.proofs.IpSetWritten.{written_as_numbers}
use Rattle.rpki_ipres.proofs.der.laws.canonical.Goals as goal

pub returns : goal.returns
returns c = record { set = written_as_numbers; family = family_as_numbers }
