-- Where a chain has no block the other is taken in alone; else a walk takes both in.
use Rattle.rpki_chain_core.proofs.Common.{arith, ⊎_elim}
use Rattle.rpki_chain_core.proofs.Chains.{IsChainOf-nil}
use Rattle.rpki_chain_core.proofs.UnionWalk.{alone_first, first_block, none_left, union_few}
use Rattle.rpki_chain_core.proofs.union.union_counted.Goals as goal

pub close_with-requires-clause-run : goal.close_with-requires-clause-run
close_with-requires-clause-run g c =
    let read = c.in-Some-read_at.ensures in
    rw c.in_ok-chain.ensures.items (first_block g.T.Block.number read.chain read.block _ (λ n c. c)).0

pub returns-in_default-clause-union : goal.returns-in_default-clause-union
returns-in_default-clause-union g c =
    let read = c.in-Some-read_at.ensures in
    alone_first g.T.Block.number read.chain read.block _ _
    (λ n. grind (arith, none_left g.T.Block.bounds _ 0 n c.in_default.ensures.block)) read.kept _
    (rw c.in_ok-chain.ensures.items at c.close_with.ensures.chain)

pub returns-in_default-clause-few : goal.returns-in_default-clause-few
returns-in_default-clause-few g c = union_few _ _ _ _ _ (returns-in_default-clause-union g c)

pub returns-in_default-read_at-clause-union : goal.returns-in_default-read_at-clause-union
returns-in_default-read_at-clause-union g c =
    let f = g.T.Block.bounds in
    rw c.empty.ensures (IsChainOf-nil f g.T.Block.form _ (λ n. ⊎_elim
    (none_left f _ 0 n c.in_default.ensures.block) (none_left f _ 0 n c.in_default-read_at.ensures.block)))

pub returns-in_default-read_at-clause-few : goal.returns-in_default-read_at-clause-few
returns-in_default-read_at-clause-few g c = rw c.empty.ensures (omega arith)

pub close_with-requires-in_default-read_at-2-clause-run : goal.close_with-requires-in_default-read_at-2-clause-run
close_with-requires-in_default-read_at-2-clause-run g c =
    let read = c.in-Some.ensures in
    rw c.in_ok-chain.ensures.items (first_block g.T.Block.number read.chain read.block _ (λ n c. c)).0

pub returns-in_default-read_at-2-clause-union : goal.returns-in_default-read_at-2-clause-union
returns-in_default-read_at-2-clause-union g c =
    let read = c.in-Some.ensures in
    alone_first g.T.Block.number read.chain read.block _ _
    (λ n. grind (arith, none_left g.T.Block.bounds _ 0 n c.in_default-read_at-2.ensures.block)) read.kept _
    (rw c.in_ok-chain.ensures.items at c.close_with-in_default-read_at-2.ensures.chain)

pub returns-in_default-read_at-2-clause-few : goal.returns-in_default-read_at-2-clause-few
returns-in_default-read_at-2-clause-few g c = union_few _ _ _ _ _ (returns-in_default-read_at-2-clause-union g c)

pub returns-clause-union : goal.returns-clause-union
returns-clause-union g c =
    rw (← c.in-Some.ensures.kept, ← c.in-Some-read_at-2.ensures.kept) c.union_behind.ensures.union

pub returns-clause-few : goal.returns-clause-few
returns-clause-few g c = union_few _ _ _ _ _ (returns-clause-union g c)
