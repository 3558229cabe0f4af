-- The block lies in the first one that doesn't end before it begins, or in none.
use Rattle.rpki_chain_core.proofs.Common.{arith, nat_tests}
use Rattle.rpki_chain_core.proofs.ChainSearches.{has_all}
use Rattle.rpki_chain_core.proofs.membership.contains_block.Goals as goal

pub returns-then-le-clause-value : goal.returns-then-le-clause-value
returns-then-le-clause-value g c =
    let block = g.T.Block.bounds c.args.block.now in
    let has = has_all c.in-Some.ensures.block block c.bounds-min.ensures.min (omega arith) in
    grind (arith, nat_tests, g.met.T.Block.in_order, g.met.T.Item.Ord.matches_partial_cmp, c.if-le.ensures)

pub returns-else-le-clause-value : goal.returns-else-le-clause-value
returns-else-le-clause-value g c =
    let block = g.T.Block.bounds c.args.block.now in
    let has = has_all c.in-Some.ensures.block block c.bounds-min.ensures.min (omega arith) in
    grind (arith, nat_tests, g.met.T.Block.in_order, g.met.T.Item.Ord.matches_partial_cmp, c.if-le.ensures)
