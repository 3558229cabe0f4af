use Rattle.respath_lines.proofs.Common.{arith}
use Rattle.respath_lines.proofs.der.der_ip.Goals as goal

pub returns-in-Err-Refused : goal.returns-in-Err-Refused
returns-in-Err-Refused g c = grind (arith, c.write_fault.ensures)
