-- A set without items adds nothing; else the chain is that of the union.
use Rattle.rpki_chain.proofs.Common.{arith}
use Rattle.rpki_chain.proofs.RunLists.{joint_runs}
use Rattle.rpki_chain.proofs.SetLemmas.{IsBlockChain-kind, IsBlockChain-of_kind, joint_none, made}
use Rattle.rpki_chain.proofs.set.BlockSet.union.Goals as goal

pub returns-then-is_empty : goal.returns-then-is_empty
returns-then-is_empty g c =
    let own = c.as_chain-own.ensures in
    let none = c.is_empty.ensures.0 c.if-is_empty.true in
    made c.clone.result c.clone.ensures.same
    (joint_none own.chain own.blocks _ _ c.as_chain-others.ensures.blocks none).0

pub returns-then-is_empty-2 : goal.returns-then-is_empty-2
returns-then-is_empty-2 g c =
    let others = c.as_chain-others.ensures in
    let none = c.is_empty-2.ensures.0 c.if-is_empty-2.true in
    made c.clone-then-is_empty-2.result c.clone-then-is_empty-2.ensures.same
    (joint_none others.chain others.blocks _ _ c.as_chain-own.ensures.blocks none).1

pub from_owned-requires : goal.from_owned-requires
from_owned-requires g c =
    let own = IsBlockChain-kind c.as_chain-own.ensures.chain in
    let others = IsBlockChain-kind c.as_chain-others.ensures.chain in
    IsBlockChain-of_kind c.in_ok-chain.ensures.union (λ n s. grind (arith, own n, others n))

pub returns : goal.returns
returns g c =
    made c.from_owned.result c.from_owned.ensures
    (joint_runs _ _ c.as_chain-own.ensures.blocks c.as_chain-others.ensures.blocks c.in_ok-chain.ensures.union)
