use Rattle.rpki_chain.proofs.IssuedClaims.{common_left}
use Rattle.rpki_chain.proofs.verify.left_by.Goals as goal

pub returns-in-Blocks : goal.returns-in-Blocks
returns-in-Blocks g c = rw c.in-Blocks.is (common_left c.args.set.now c.in-Blocks.listed.now _ c.intersection.ensures)
