use Rattle.rpki_resources.proofs.Common.{refl}
use Rattle.rpki_resources.proofs.KindLemmas.{both, not_both, each}
use Rattle.rpki_resources.proofs.set.ResourceSet.contains.Goals as goal
use Rattle.rpki_resources.proofs.set.ResourceSet.contains.Goals.{then-contains, else-contains}

pub returns-then-contains-2 : goal.returns-then-contains-2
returns-then-contains-2 g c =
    rw (← c.self.view_is, ← c.other.view_is)
    (each _ _ (both _ _ _ _ _ c.if-contains-2.true refl (elim c.if-contains.branch [
      | then-contains w ↦ both _ _ _ _ _ w.if-contains.true w.value-is c.contains.ensures
          w.contains-then-contains.ensures
      | else-contains w ↦ not_both _ _ _ _ w.if-contains.false w.value-is c.contains.ensures
    ]) c.contains-then-contains-2.ensures))

pub returns-else-contains-2 : goal.returns-else-contains-2
returns-else-contains-2 g c =
    rw (← c.self.view_is, ← c.other.view_is)
    (each _ _ (not_both _ _ _ _ c.if-contains-2.false refl (elim c.if-contains.branch [
      | then-contains w ↦ both _ _ _ _ _ w.if-contains.true w.value-is c.contains.ensures
          w.contains-then-contains.ensures
      | else-contains w ↦ not_both _ _ _ _ w.if-contains.false w.value-is c.contains.ensures
    ])))
