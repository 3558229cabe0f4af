-- The value is that of the digits so far.
use Rattle.rpki_text.proofs.Common.{take, IsValueUpTo}
use Rattle.rpki_text.proofs.number.read_digits.Given as goal

abbrev pub invariant-loop-byte : goal.invariant-loop-byte
invariant-loop-byte l = IsValueUpTo l.limit (take l.byte-index l.digits) l.value
