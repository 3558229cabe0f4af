-- The blocks passed were made anew, and the chain is the same.
use Rattle.rpki_chain_core.proofs.Common.{take, ◌+◌, ◌≡◌, ◌≤◌}
use Rattle.rpki_chain_core.proofs.intersection.first_blocks.Given as goal

abbrev pub invariant-loop-at : goal.invariant-loop-at
invariant-loop-at g l = record {
  reads : g.X.Reads.count l.own ≤ g.X.Reads.count l.fn.own + l.at;
  made : l.chain.items ≡ take l.at (g.X.Reads.blocks l.fn.own);
  kept : g.X.Reads.blocks l.own ≡ g.X.Reads.blocks l.fn.own;
}
