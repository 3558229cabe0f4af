-- The value is that of the digits so far.
use Rattle.rpki_text.proofs.Common.{length, ◌-◌, AreDigitsBetween}
use Rattle.rpki_text.proofs.number.digits_from.Given as goal

abbrev pub invariant-loop-end : goal.invariant-loop-end
invariant-loop-end l = AreDigitsBetween l.start l.end l.text l.value

abbrev pub decreases-loop-end : goal.decreases-loop-end
decreases-loop-end l = length l.text - l.end
