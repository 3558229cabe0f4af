-- The item lies in the first block that doesn't end before it, or in none.
use Rattle.rpki_chain_core.proofs.Common.{arith, nat_tests}
use Rattle.rpki_chain_core.proofs.ChainSearches.{has_number}
use Rattle.rpki_chain_core.proofs.membership.contains_item_counted.Goals as goal

pub returns-in-Some-clause-value : goal.returns-in-Some-clause-value
returns-in-Some-clause-value g c =
    let has = has_number c.in-Some.ensures.block in
    grind (arith, nat_tests, g.met.T.Block.in_order, g.met.T.Item.Ord.matches_partial_cmp)
