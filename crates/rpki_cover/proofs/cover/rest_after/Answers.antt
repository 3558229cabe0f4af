use Rattle.rpki_cover.proofs.Common.{arith, pow_mono}
use Rattle.rpki_cover.proofs.cover.rest_after.Goals as goal

pub returns-then-free-ge128 : goal.returns-then-free-ge128
returns-then-free-ge128 c = omega (arith, pow_mono c.if-free-ge128.true, c.ranges.last.fits)
