-- Where the other chain has no block behind the overhang all is there; else a walk goes on from there.
use Rattle.rpki_chain_core.proofs.Common.{inr}
use Rattle.rpki_chain_core.proofs.Chains.{IsChain-from}
use Rattle.rpki_chain_core.proofs.IntersectionWalk.{meet_done, meet_start}
use Rattle.rpki_chain_core.proofs.intersection.common_from.Goals as goal

pub returns-in_default-clause-common : goal.returns-in_default-clause-common
returns-in_default-clause-common g c =
    let walk = meet_start c.requires c.len-own_len.ensures.chain c.len-other_len.ensures.chain in
    rw (c.from_vec_unchecked.ensures, c.in_ok-chain.ensures.value) (meet_done walk (inr c.in_default.is))

pub push_behind-requires-clause-overhang : goal.push_behind-requires-clause-overhang
push_behind-requires-clause-overhang g c = rw (c.in_ok-chain.ensures.kept, ← c.in-Some.is) c.requires

pub from_vec_unchecked-requires : goal.from_vec_unchecked-requires
from_vec_unchecked-requires g c =
    let walk = meet_start c.requires c.len-own_len.ensures.chain c.len-other_len.ensures.chain in
    rw c.in_ok-chain.ensures.value walk.common.chain

pub from_vec_unchecked-requires-2 : goal.from_vec_unchecked-requires-2
from_vec_unchecked-requires-2 g c = IsChain-from _ _ _ _ c.in_ok-push_behind.ensures.common.0

pub returns-clause-common : goal.returns-clause-common
returns-clause-common g c =
    rw (c.from_vec_unchecked-2.ensures, ← c.in_ok-chain.ensures.kept) c.in_ok-push_behind.ensures.common.0
