-- The changes lead from the second set to the first.
use Rattle.rpki_theorem.proofs.Common.{subst}
use Rattle.rpki_resources.specs.Triples.{IsDifferenceOf, IsUnionOf}
use Rattle.rpki_theorem.proofs.resources.restored.Goals as goal

pub returns-clause-restored : goal.returns-clause-restored
returns-clause-restored g c =
    let b = c.args.b.now in
    let law = c.laws_of_changes.ensures.restores c.args.a.now b c.in_ok-changes.changes in
    let (kept, without, with) = c.in_ok-set.ensures in
    law kept c.in_ok-set.set c.recall_invariant.ensures c.in_ok-changes.ensures
    (subst (λ r. IsDifferenceOf b r kept) c.removed.ensures without)
    (subst (λ r. IsUnionOf kept r c.in_ok-set.set) c.added.ensures with)
