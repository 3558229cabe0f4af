-- A NULL is read back; the others are found.
use Rattle.rpki_der.proofs.Common.{[], arith, null_value}
use Rattle.rpki_der.proofs.ValueReadings.{null_reading}
use Rattle.rpki_der.proofs.WrittenValues.{value_is}
use Rattle.rpki_der.proofs.laws.read_back.Goals as goal

pub returns-clause-null : goal.returns-clause-null
returns-clause-null c rest = null_reading.again null_value tt rest (value_is 5 [] (omega arith) (omega arith))
