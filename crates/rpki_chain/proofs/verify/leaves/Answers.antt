use Rattle.rpki_chain.proofs.IssuedClaims.{missing_leaves}
use Rattle.rpki_chain.proofs.verify.leaves.Goals as goal

pub returns-in-Missing : goal.returns-in-Missing
returns-in-Missing g c =
    rw c.in-Missing.is (missing_leaves c.args.set.now _ c.recall_invariant.ensures.are_runs c.is_empty.ensures)

pub returns-in-Blocks : goal.returns-in-Blocks
returns-in-Blocks g c = rw c.in-Blocks.is c.contains.ensures
