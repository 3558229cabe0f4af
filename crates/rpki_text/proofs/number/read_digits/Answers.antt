-- One more digit adds to the value.
use Rattle.rpki_text.proofs.NumberLemmas.{value_more}
use Rattle.rpki_text.proofs.number.read_digits.Goals as goal

pub loop-byte-preserved : goal.loop-byte-preserved
loop-byte-preserved c =
    value_more _ _ _ _ _ c.loop-byte-test.true c.if-not-is_ascii_digit.ensures.cases c.from.ensures
    c.loop-byte.invariant c.if-value-limit.false
