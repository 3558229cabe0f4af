use Rattle.rpki_extensions.proofs.ReadingOutcomes.{one_address_claims, one_address_value, one_as_value, one_claimed}
use Rattle.rpki_extensions.proofs.ReadingOutcomes.{one_numbers_claim}
use Rattle.rpki_extensions.proofs.laws.outcomes_of_reading.Goals as goal

pub returns : goal.returns
returns c = record {
  as_value = one_as_value;
  families = one_address_value;
  ip_claims = one_claimed;
  optional_as_claim = one_numbers_claim;
  optional_ip_claims = one_address_claims;
}
