use Rattle.rpki_extensions.proofs.ReadingOutcomes.{one_claims}
use Rattle.rpki_extensions.proofs.VerifiedOutcomes.{one_anchor, one_verified}
use Rattle.rpki_extensions.proofs.laws.outcomes_of_certificates.Goals as goal

pub returns : goal.returns
returns g c = record {
  claims = λ certificate few. one_claims certificate few;
  anchor = one_anchor;
  verified = one_verified;
}
