-- Where the last block of the one chain ends no later than the last of the other, so does each block.
use Rattle.rpki_chain_core.proofs.Common.{arith, nat_tests, refl, ◌≤◌}
use Rattle.rpki_chain_core.proofs.OverhangWalk.{ends_by_last}
use Rattle.rpki_chain_core.proofs.overhang.ends_within.Goals as goal

pub returns : goal.returns
returns g c = λ yes.
    let own = c.index-own-own_last in
    let other = c.index-other-other_last in
    let own_end = c.max-own_end.ensures.value in
    let other_end = c.max-other_end.ensures.value in
    let order : g.T.Block.number c.max-own_end.result ≤ g.T.Block.number c.max-other_end.result = grind
    (arith, nat_tests, g.met.T.Block.in_order, g.met.T.Item.Ord.matches_partial_cmp) in
    ends_by_last _ c.requires _ _ own.result other.result refl (grind (arith, nat_tests)) own.is other.is (omega arith)
