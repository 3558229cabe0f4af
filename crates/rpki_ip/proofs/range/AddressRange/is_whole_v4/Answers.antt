use Rattle.rpki_ip.proofs.Common.{rules, range_bounds}
use Rattle.rpki_ip.proofs.WholeRangeLemmas.{whole_test}
use Rattle.rpki_ip.proofs.range.AddressRange.is_whole_v4.Goals as goal

pub returns-then-eq-clause-set : goal.returns-then-eq-clause-set
returns-then-eq-clause-set c =
    whole_test (range_bounds c.args.self.now) c.eq-then-eq.result (rw (← c.self.view_is) c.self.invariant.ordered)
    (search rules)

pub returns-else-eq-clause-set : goal.returns-else-eq-clause-set
returns-else-eq-clause-set c =
    whole_test (range_bounds c.args.self.now) c.eq.result (rw (← c.self.view_is) c.self.invariant.ordered)
    (search rules)
