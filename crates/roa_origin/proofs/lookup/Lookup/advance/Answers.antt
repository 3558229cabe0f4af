-- The VRP in the middle shows on which side of it the prefix is looked up. Where nothing is left, the search has ended.
use Rattle.roa_origin.proofs.Common.{arith}
use Rattle.roa_origin.proofs.FirstBits.{before_middle, behind_middle}
use Rattle.roa_origin.proofs.lookup.Lookup.advance.Goals as goal

pub end_at-requires : goal.end_at-requires
end_at-requires c =
    let b = c.self.invariant.between in
    rw (← c.self.view_is) (record {
      ordered = omega arith;
      within = omega (arith, b.ordered, b.within);
      up_to = b.up_to;
      later = λ k d from small. b.later k d (omega (arith, from, c.if-self.true)) small;
    })

pub invariant_of-self : goal.invariant_of-self
invariant_of-self c =
    let h = c.self.invariant in
    behind_middle h _ c.index-self-middle.result (omega arith) (omega (arith, c.if-self.false, h.between.ordered))
    (c.comes_by.ensures.0 c.if-comes_by.true)

pub invariant_of-self-else-comes_by : goal.invariant_of-self-else-comes_by
invariant_of-self-else-comes_by c =
    let h = c.self.invariant in
    before_middle h _ c.index-self-middle.result (omega arith) (omega (arith, c.if-self.false, h.between.ordered))
    (grind (arith, c.comes_by.ensures.1, c.if-comes_by.false))
