-- The block meets the first one that doesn't end before it begins, or none.
use Rattle.rpki_chain_core.proofs.Common.{arith, nat_tests}
use Rattle.rpki_chain_core.proofs.ChainSearches.{has_some}
use Rattle.rpki_chain_core.proofs.membership.intersects_block.Goals as goal

pub returns-in-Some-clause-value : goal.returns-in-Some-clause-value
returns-in-Some-clause-value g c =
    let has = has_some c.in-Some.ensures.block (g.T.Block.bounds c.args.block.now) c.bounds-min.ensures.min
    (omega arith) in
    grind (arith, nat_tests, g.met.T.Block.in_order, g.met.T.Item.Ord.matches_partial_cmp)

pub returns-in-None-clause-value : goal.returns-in-None-clause-value
returns-in-None-clause-value g c = (
  λ t. absurd (grind (arith, nat_tests)),
  λ (n, w, held). absurd (c.in-None.ensures.block n (omega (arith, w.0, c.bounds-min.ensures.min)) held),
)
