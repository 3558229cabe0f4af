-- All blocks before the part that is searched end before the item; the one behind it was found, or none is there.
use Rattle.rpki_chain_core.proofs.Common.{IfSome, get_or, length, ℕ, ◌-◌, ◌<◌, ◌≡◌, ◌≤◌, HoldsBlock, IsChain}
use Rattle.rpki_chain_core.proofs.ReadCounts.{Halved}
use Rattle.rpki_chain_core.proofs.membership.seek.Given as goal

abbrev pub invariant-loop-low : goal.invariant-loop-low
invariant-loop-low g l = record {
  halved : Halved (length (g.R.Reads.blocks l.fn.chain) - l.fn.at) (l.high - l.low) (g.R.Reads.count l.fn.chain)
      (g.R.Reads.count l.chain);
  chain : IsChain g.T.Block.bounds g.T.Block.form (g.R.Reads.blocks l.fn.chain);
  kept : g.R.Reads.blocks l.chain ≡ g.R.Reads.blocks l.fn.chain;
  ordered : (l.fn.at ≤ l.low) × (l.low ≤ l.high) × (l.high ≤ length (g.R.Reads.blocks l.fn.chain));
  below : (k : ℕ) (d : _) → l.fn.at ≤ k → k < l.low
      → (g.T.Block.bounds (get_or (g.R.Reads.blocks l.fn.chain) k d)).1 < g.T.Block.number l.item;
  found : HoldsBlock g.T.Block.bounds g.T.Block.number g.T.Block.last (g.R.Reads.blocks l.fn.chain) l.high l.found;
  reaches : IfSome l.found (λ b. g.T.Block.number l.item ≤ g.T.Block.number b.1);
}

abbrev pub decreases-loop-low : goal.decreases-loop-low
decreases-loop-low g l = l.high - l.low
