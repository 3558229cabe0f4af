-- Resources are read back.
use Rattle.rpki_as.proofs.Common.{ap, as_resources_octets, said_alike}
use Rattle.rpki_as.proofs.AsResourcesDer.{one_resources, resources_in_modes, resources_short, resources_written}
use Rattle.rpki_as.proofs.der.laws.written_resources.Goals as goal

pub returns : goal.returns
returns c = record {
  one = one_resources;
  written = resources_written;
  alike = λ a b is also some more.
      (said_alike resources_in_modes a b (is, some) (also, more) (resources_short a is), ap as_resources_octets);
}
