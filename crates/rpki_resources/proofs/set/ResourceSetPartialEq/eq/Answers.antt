use Rattle.rpki_resources.proofs.Common.{refl}
use Rattle.rpki_resources.proofs.KindLemmas.{both, not_both, each}
use Rattle.rpki_resources.proofs.set.ResourceSetPartialEq.eq.Goals as goal
use Rattle.rpki_resources.proofs.set.ResourceSetPartialEq.eq.Goals.{then-eq, else-eq}

pub returns-then-eq-2-clause-numbers : goal.returns-then-eq-2-clause-numbers
returns-then-eq-2-clause-numbers g c =
    rw (← c.self.view_is, ← c.other.view_is) (each _ _ (both _ _ _ _ _ c.if-eq-2.true refl (elim c.if-eq.branch [
      | then-eq w ↦ both _ _ _ _ _ w.if-eq.true w.value-is c.eq.ensures.numbers w.eq-then-eq.ensures.numbers
      | else-eq w ↦ not_both _ _ _ _ w.if-eq.false w.value-is c.eq.ensures.numbers
    ]) c.eq-then-eq-2.ensures.numbers))

pub returns-else-eq-2-clause-numbers : goal.returns-else-eq-2-clause-numbers
returns-else-eq-2-clause-numbers g c =
    rw (← c.self.view_is, ← c.other.view_is) (each _ _ (not_both _ _ _ _ c.if-eq-2.false refl (elim c.if-eq.branch [
      | then-eq w ↦ both _ _ _ _ _ w.if-eq.true w.value-is c.eq.ensures.numbers w.eq-then-eq.ensures.numbers
      | else-eq w ↦ not_both _ _ _ _ w.if-eq.false w.value-is c.eq.ensures.numbers
    ])))
