-- The exchanged changes lead from the first set to the second.
use Rattle.rpki_theorem.proofs.Common.{subst}
use Rattle.rpki_resources.specs.Triples.{IsDifferenceOf, IsUnionOf}
use Rattle.rpki_theorem.proofs.resources.undone.Goals as goal

pub returns-clause-undone : goal.returns-clause-undone
returns-clause-undone g c =
    let a = c.args.a.now in
    let diff = c.in_ok-diff.diff in
    let made = c.in_ok-diff.ensures in
    let law =
    c.laws_of_changes.ensures.restores c.args.b.now a (record { added = diff.removed; removed = diff.added }) in
    let (kept, without, with) = c.in_ok-set.ensures in
    law kept c.in_ok-set.set c.recall_invariant.ensures (record { added = made.removed; removed = made.added })
    (subst (λ r. IsDifferenceOf a r kept) c.added.ensures without)
    (subst (λ r. IsUnionOf kept r c.in_ok-set.set) c.removed.ensures with)
