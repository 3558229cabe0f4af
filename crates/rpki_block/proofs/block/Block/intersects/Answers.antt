-- Blocks meet where neither ends before the other begins.
use Rattle.std.proofs.Common.{IsTrue, arith, max, ◌≤◌}
use Rattle.std.proofs.lemmas.Bool.Decides.{nat_tests}
use Rattle.rpki_block.proofs.block.Block.intersects.Goals as goal

pub returns-then-le : goal.returns-then-le
returns-then-le g c =
    let self = g.Self.Block.bounds c.args.self.now in
    let other = g.Self.Block.bounds c.args.other.now in
    let order = g.met.Self.Block.in_order in
    let same = g.met.Self.Item.Ord.matches_partial_cmp in
    let before : self.0 ≤ other.1 = grind (arith, nat_tests, order, same) in (
      λ (t : IsTrue c.ge.result). let after : other.0 ≤ self.1 = grind (arith, nat_tests, order, same) in
          (max self.0 other.0, (omega arith, omega arith), (omega arith, omega arith)),
      λ h. grind (arith, nat_tests, order, same),
    )
