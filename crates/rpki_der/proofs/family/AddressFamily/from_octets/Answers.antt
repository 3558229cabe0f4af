-- What the reading gives is what the octets say by the rule.
use Rattle.rpki_der.proofs.FamilyDerLemmas.{family_check, renamed}
use Rattle.rpki_der.proofs.family.AddressFamily.from_octets.Goals as goal

pub returns : goal.returns
returns c = renamed _ _ _ _ _ _ _ family_check tt c.from_octets_exact.ensures.exact c.map_err.ensures.cases
