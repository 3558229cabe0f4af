-- The blocks so far are the numbers before the rest at hand, and no number is lost.
use Rattle.rpki_chain_core.proofs.Common.{Some, length, ◌+◌, ◌-◌, ◌≤◌, ◌⊎◌, Covers, numbers}
use Rattle.rpki_chain_core.proofs.ReadCounts.{IsReader}
use Rattle.rpki_chain_core.proofs.DifferenceWalk.{Keeps}
use Rattle.rpki_chain_core.proofs.difference.keep_rest.Given as goal

abbrev pub invariant-loop-chain : goal.invariant-loop-chain
invariant-loop-chain g l =
    let f = g.T.Block.bounds in
    let number = g.T.Block.number in
    let xs = g.R.Reads.blocks l.fn.own in
    record {
      own : IsReader xs (g.R.Reads.blocks l.own) l.at (g.R.Reads.count l.own)
          (g.R.Reads.count l.fn.own + (length xs - (l.fn.at + 1)));
      keeps : Keeps f g.T.Block.form xs l.at (Some (numbers number l.rest))
          (λ n. Covers f l.fn.chain.items n ⊎ (Covers f xs n × (number l.fn.rest.0 ≤ n))) l.chain.items;
      from : number l.fn.rest.0 ≤ number l.rest.0;
      few : length l.chain.items + (length xs - l.at) ≤ length l.fn.chain.items + (length xs - l.fn.at);
    }

abbrev pub decreases-loop-chain : goal.decreases-loop-chain
decreases-loop-chain g l = length (g.R.Reads.blocks l.fn.own) - l.at
