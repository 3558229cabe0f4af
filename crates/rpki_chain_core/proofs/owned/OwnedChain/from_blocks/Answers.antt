-- Blocks that ascend are joined while they are copied; others are made anew, which cover what the blocks covered.
use Rattle.rpki_chain_core.proofs.Chains.{chain_of_same, IsChainOf-from}
use Rattle.rpki_chain_core.proofs.SortedBlocks.{same_cover}
use Rattle.rpki_chain_core.proofs.owned.OwnedChain.from_blocks.Goals as goal

pub returns : goal.returns
returns g c =
    let f = g.T.Block.bounds in
    let same = same_cover f f _ _ c.in_ok-rebuild.ensures.bounds in
    record {
      chain = chain_of_same f g.T.Block.form _ _ same _ c.from_vec.ensures.chain;
      kind = λ n covered. c.from_vec.ensures.kind n ((same n).1 covered);
    }

pub returns-then-branch : goal.returns-then-branch
returns-then-branch g c =
    let joined = c.in_ok-join_ascending_into.ensures in
    let ascend = c.if-branch.true in
    rw c.from_vec_unchecked.ensures record {
      chain = IsChainOf-from g.T.Block.bounds g.T.Block.form _ _ (joined.chain ascend) (joined.covers ascend);
      kind = joined.kind ascend;
    }
