-- What comes later than the route doesn't cover it.
use Rattle.roa_origin.proofs.Common.{arith, inl, inr, cases_lt}
use Rattle.roa_origin.proofs.LinkWalks.{later_covers_none}
use Rattle.roa_origin.proofs.lookup.Lookup.count_to_nearest.Goals as goal

pub returns-then-self-clause-none : goal.returns-then-self-clause-none
returns-then-self-clause-none c =
    let h = c.self.invariant in
    let same = (h.read c.if-self.true).ended in
    rw (← c.self.view_is) (λ k d from small inside.
    later_covers_none _ _ _ h.table.in_order h.is_prefix h.between.later k d (omega (arith, from, same)) small inside)

pub returns-clause-none : goal.returns-clause-none
returns-clause-none c =
    let h = c.self.invariant in
    let up_to = rw (← c.self.view_is) at c.count.ensures in
    let none = later_covers_none _ _ _ h.table.in_order h.is_prefix up_to.later in
    rw (← c.self.view_is) (λ k d from small inside. elim (cases_lt k c.count.result) [
      | inl less ↦ c.nearest.ensures.none k d from less inside
      | inr more ↦ none k d more small inside
    ])
