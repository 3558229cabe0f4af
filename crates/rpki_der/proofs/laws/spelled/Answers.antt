-- The spelling of an integer meets its conditions; the others are found.
use Rattle.rpki_der.proofs.ContentReadings.{spelled_unsigned}
use Rattle.rpki_der.proofs.laws.spelled.Goals as goal

pub returns-clause-integer_again : goal.returns-clause-integer_again
returns-clause-integer_again c = spelled_unsigned
