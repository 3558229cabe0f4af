-- The blocks passed were made anew, each of its bounds.
use Rattle.rpki_chain_core.proofs.Common.{All, map, take, ◌≡◌, IsNew}
use Rattle.rpki_chain_core.proofs.owned.rebuild.Given as goal

abbrev pub invariant-loop-block : goal.invariant-loop-block
invariant-loop-block g l = record {
  bounds : map g.T.Block.bounds l.new.items ≡ map g.T.Block.bounds (take l.block-index l.blocks);
  same : All (IsNew g.T.Block.bounds g.T.Block.form) l.blocks → l.new.items ≡ take l.block-index l.blocks;
}
