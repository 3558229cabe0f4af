-- How the two blocks lie decides the fit.
use Rattle.rpki_chain_core.proofs.Common.{arith, nat_tests}
use Rattle.rpki_chain_core.proofs.overhang.fit_in.Goals as goal

pub returns-then-lt : goal.returns-then-lt
returns-then-lt g c = grind (arith, nat_tests, g.met.T.Block.in_order, g.met.T.Item.Ord.matches_partial_cmp)

pub returns-then-lt-2 : goal.returns-then-lt-2
returns-then-lt-2 g c = grind (arith, nat_tests, g.met.T.Block.in_order, g.met.T.Item.Ord.matches_partial_cmp)

pub returns-then-lt-3 : goal.returns-then-lt-3
returns-then-lt-3 g c = grind (arith, nat_tests, g.met.T.Block.in_order, g.met.T.Item.Ord.matches_partial_cmp)

pub returns : goal.returns
returns g c = grind (arith, nat_tests, g.met.T.Block.in_order, g.met.T.Item.Ord.matches_partial_cmp)
