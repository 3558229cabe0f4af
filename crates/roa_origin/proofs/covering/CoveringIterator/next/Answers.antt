-- The next VRP is the first of those left, and its link tells the others.
use Rattle.roa_origin.proofs.Common.{ap, arith, get_or, inl, inr, length, refl, sym, ◌-◌, ◌<◌, ◌∙◌, ◌≡◌, ◌≤◌, ◌⊎◌}
use Rattle.roa_origin.proofs.CoveringVrps.{gives, walk_on}
use Rattle.roa_origin.proofs.LinkWalks.{no_link}
use Rattle.roa_origin.proofs.covering.CoveringIterator.next.Goals as goal
use Rattle.roa_origin.proofs.covering.CoveringIterator.next.Goals.{then-first-last, else-first-last}

some : (c : goal.After-vrp) → 0 < c.self.inside.at
some c = (let other : c.self.inside.at ≡ 0 → ⊥ = c.if-self-eq0.false in omega (arith, other))

goes : (c : goal.After-vrp) → let at = c.self.inside.at - 1 in let l = get_or c.self.inside.links.now at no_link in
    ((c.if-first-last.self ≡ at) × (l.first < at)) ⊎ ((c.if-first-last.self ≡ l.back) × (at ≤ l.first))
goes c = elim c.if-first-last.branch [
  | then-first-last w ↦ inl (w.self-is, w.if-first-last.true)
  | else-first-last w ↦ inr (w.self-is, w.if-first-last.false)
]

pub invariant_of-self : goal.invariant_of-self
invariant_of-self c = walk_on c.self.invariant (some c) refl (goes c)

pub returns-clause-steps : goal.returns-clause-steps
returns-clause-steps c =
    let x = c.index-self-last.result in
    rw c.vrp.ensures (sym c.self.view_is ∙ gives c.self.invariant (some c) refl (goes c) x)

pub returns-clause-goes : goal.returns-clause-goes
returns-clause-goes c =
    let shorter = ap length (returns-clause-steps c) in
    record { on = λ _. (tt, tt, omega arith); keeps = tt; rests = λ _. tt }
