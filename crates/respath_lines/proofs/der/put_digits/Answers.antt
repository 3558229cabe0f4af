use Rattle.respath_lines.proofs.Common.{arith, ◌∙◌}
use Rattle.respath_lines.proofs.HexadecimalLemmas.{lower_encoded}
use Rattle.respath_lines.proofs.der.put_digits.Goals as goal

pub returns : goal.returns
returns c = c.in-Ok.ensures.written ∙ lower_encoded c.args.octets.now (λ k. omega (arith, c.type_inv.octets k))
