-- The blocks passed are joined.
use Rattle.rpki_chain_core.proofs.Common.{numbers}
use Rattle.rpki_chain_core.proofs.RunJoining.{Joined}
use Rattle.rpki_chain_core.proofs.ascending.join_ascending_into.Given as goal

abbrev pub invariant-loop-at : goal.invariant-loop-at
invariant-loop-at g l =
    Joined g.T.Block.bounds g.T.Block.form g.T.Block.first g.T.Block.last l.blocks l.at l.chain.items
    (numbers g.T.Block.number l.run)
