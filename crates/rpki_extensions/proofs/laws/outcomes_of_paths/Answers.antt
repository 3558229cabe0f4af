use Rattle.rpki_extensions.proofs.VerifiedOutcomes.{one_below, one_verified_path}
use Rattle.rpki_extensions.proofs.laws.outcomes_of_paths.Goals as goal

pub returns : goal.returns
returns g c = record { path = one_verified_path; below = one_below }
