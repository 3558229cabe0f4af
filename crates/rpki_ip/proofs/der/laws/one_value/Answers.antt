-- Each grammar has a reading.
use Rattle.rpki_ip.proofs.Common.{family_reading, one_front, refined, tagged_at, IsPrefixDer, prefix_at, IsRangeDer}
use Rattle.rpki_ip.proofs.Common.{range_in}
use Rattle.rpki_der.specs.FamilyDer.{IsFamilyDer, family_at}
use Rattle.rpki_ip.proofs.PrefixDerReadings.{prefix_reading, range_reading}
use Rattle.rpki_ip.proofs.der.laws.one_value.Goals as goal

pub returns : goal.returns
returns c = record {
  family = one_front IsFamilyDer family_at family_reading;
  prefix = λ limit. one_front (IsPrefixDer limit) (prefix_at limit) (prefix_reading limit);
  range = λ limit. one_front (IsRangeDer limit) (refined (tagged_at 48) (range_in limit)) (range_reading limit);
}
