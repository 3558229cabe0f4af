-- Blocks stand for one set, and so for one claim.
use Rattle.rpki_ipres.proofs.FamilyWritten.{one_sequence, one_family}
use Rattle.rpki_ipres.proofs.IpResourcesWritten.{one_of_families, one_resources}
use Rattle.rpki_ipres.proofs.der.laws.one_value.Goals as goal

pub returns : goal.returns
returns c = record {
  set = one_sequence;
  family = one_family;
  resources = one_resources;
  families = one_of_families;
}
