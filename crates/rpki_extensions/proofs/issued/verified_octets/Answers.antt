use Rattle.rpki_extensions.proofs.Common.{arith}
use Rattle.rpki_extensions.proofs.IssuedSetLemmas.{answer_inside, of_claims}
use Rattle.rpki_extensions.proofs.issued.verified_octets.Goals as goal

pub returns-in-Ok-clause-verified : goal.returns-in-Ok-clause-verified
returns-in-Ok-clause-verified g c = grind (arith, of_claims)

pub returns-in-Ok-clause-inside : goal.returns-in-Ok-clause-inside
returns-in-Ok-clause-inside g c = grind (arith, answer_inside)
