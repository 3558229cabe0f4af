-- The prefixes found, when all were gone through.
use Rattle.example_calls.proofs.Common.{refl, take_all, CoversPrefix, FamilyPrefix}
use Rattle.example_calls.proofs.RouteLemmas.{one_kept, one_passed}
use Rattle.example_calls.proofs.cache.covering.Goals as goal
use Rattle.example_calls.proofs.cache.covering.Goals.{then-covers+in_ok-push, else-covers}

pub loop-prefix-preserved : goal.loop-prefix-preserved
loop-prefix-preserved g c =
    let P = λ (p : FamilyPrefix). CoversPrefix p c.args.route in
    let inside = c.loop-prefix-test.true in
    let found = c.loop-prefix.found.items in
    elim c.if-covers.branch [
      | then-covers+in_ok-push w ↦
          rw (w.found-is, w.in_ok-push.ensures.items)
          (one_kept P _ _ _ inside c.prefix-item.is found (w.if-covers.ensures.value.0 refl) c.loop-prefix.invariant)
      | else-covers w ↦
          let none : ¬ P c.prefix-item.result = λ h. (let no = w.if-covers.ensures.value.1 h in cc) in
          rw w.found-is (one_passed P _ _ _ inside c.prefix-item.is found none c.loop-prefix.invariant)
    ]

pub returns : goal.returns
returns g c =
    rw (take_all c.loop-prefix.prefix-index c.args.table.now c.loop-prefix-test.false) at c.loop-prefix.invariant
