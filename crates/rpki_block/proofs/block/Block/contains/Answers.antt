-- An item lies in a block where it lies between its ends.
use Rattle.std.proofs.Common.{arith}
use Rattle.std.proofs.lemmas.Bool.Decides.{nat_tests}
use Rattle.rpki_block.proofs.block.Block.contains.Goals as goal

pub returns-then-le : goal.returns-then-le
returns-then-le g c = grind (arith, nat_tests, g.met.Self.Block.in_order, g.met.Self.Item.Ord.matches_partial_cmp)
