-- An item is reached where it is not above the next one.
use Rattle.rpki_chain_core.proofs.Common.{arith, nat_tests}
use Rattle.rpki_chain_core.proofs.build.is_reached.Goals as goal

pub returns-in-Some : goal.returns-in-Some
returns-in-Some g c =
    grind (arith, nat_tests, g.met.T.Block.in_order, g.met.T.Item.Ord.matches_partial_cmp, c.in-Some.ensures)
