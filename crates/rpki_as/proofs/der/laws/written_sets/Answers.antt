-- The blocks of a set are read back, so sets that are written alike are one.
use Rattle.rpki_as.proofs.AsSetDerLemmas.{set_in_modes, set_short}
use Rattle.rpki_as.proofs.Common.{ap, as_set_octets, said_alike, sequence_value, written_said}
use Rattle.rpki_as.proofs.AsListLemmas.{alike_as_numbers}
use Rattle.rpki_as.proofs.der.laws.written_sets.Goals as goal

pub returns : goal.returns
returns c = record {
  sequence = λ set is. written_said set_in_modes set is (set_short set is);
  alike = λ a b is also. alike_as_numbers as_set_octets a b is also
      (λ same. said_alike set_in_modes a b is also (set_short a is) (ap sequence_value same));
}
