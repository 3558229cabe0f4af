use Rattle.std.proofs.Common.{rules, sym, refl}
use Rattle.test_support.proofs.names.named.Goals as goal

pub returns-then-eq-clause-some : goal.returns-then-eq-clause-some
returns-then-eq-clause-some g c = (
  c.loop-word.word-index,
  c.loop-word-item.result,
  c.loop-word-test.true,
  sym c.loop-word-item.is,
  (search rules, refl),
)
