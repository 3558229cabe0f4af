-- Where the other chain has no block behind the overhang all is kept from there on; else a walk goes on from there.
use Rattle.rpki_chain_core.proofs.DifferenceWalk.{walk_behind, walk_few, walk_from, walk_rest}
use Rattle.rpki_chain_core.proofs.difference.difference_from.Goals as goal

pub keep_rest-requires-clause-behind : goal.keep_rest-requires-clause-behind
keep_rest-requires-clause-behind g c =
    let walk = rw c.in_default.is at (walk_from c.requires c.len-own_len.ensures.chain c.len-other_len.ensures.chain) in
    rw c.new-chain.ensures.items (walk_behind walk)

pub keep_rest-requires-clause-rest : goal.keep_rest-requires-clause-rest
keep_rest-requires-clause-rest g c =
    (walk_from c.requires c.len-own_len.ensures.chain c.len-other_len.ensures.chain).own.rest_is

pub returns-in_default-clause-difference : goal.returns-in_default-clause-difference
returns-in_default-clause-difference g c =
    let walk = rw c.in_default.is at (walk_from c.requires c.len-own_len.ensures.chain c.len-other_len.ensures.chain) in
    walk_rest walk _ (rw c.new-chain.ensures.items at c.keep_rest.ensures.chain)

pub returns-in_default-clause-few : goal.returns-in_default-clause-few
returns-in_default-clause-few g c =
    let walk = rw c.in_default.is at (walk_from c.requires c.len-own_len.ensures.chain c.len-other_len.ensures.chain) in
    walk_few walk _ (rw c.new-chain.ensures.items at c.keep_rest.ensures.few)

pub cut_behind-requires-clause-overhang : goal.cut_behind-requires-clause-overhang
cut_behind-requires-clause-overhang g c = rw (← c.in-Some.is) c.requires
