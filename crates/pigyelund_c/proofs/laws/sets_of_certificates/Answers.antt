use Rattle.pigyelund_c.proofs.ClaimedLemmas.{outcome_claimed, path_claimed}
use Rattle.pigyelund_c.proofs.laws.sets_of_certificates.Goals as goal

pub returns-clause-verify : goal.returns-clause-verify
returns-clause-verify c = outcome_claimed

pub returns-clause-path : goal.returns-clause-path
returns-clause-path c = path_claimed
