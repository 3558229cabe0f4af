-- The blocks passed are joined, and those to come stand as they did.
use Rattle.rpki_chain_core.proofs.Common.{get_or, length, take, ℕ, ◌<◌, ◌≡◌, ◌≤◌, numbers}
use Rattle.rpki_chain_core.proofs.RunJoining.{Joined}
use Rattle.rpki_chain_core.proofs.build.join_ascending.Given as goal

abbrev pub invariant-loop-at : goal.invariant-loop-at
invariant-loop-at g l =
    let old = l.fn.blocks.items in
    record {
      passed : l.closed < l.at;
      as_many : length l.blocks.items ≡ length old;
      to_come : (k : ℕ) (d : _) → l.at ≤ k → get_or l.blocks.items k d ≡ get_or old k d;
      joined : Joined g.T.Block.bounds g.T.Block.form g.T.Block.first g.T.Block.last old l.at
          (take l.closed l.blocks.items) (numbers g.T.Block.number l.run);
    }
