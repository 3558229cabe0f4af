-- Each route is asked of both tables.
use Rattle.roa_origin.proofs.Common.{arith}
use Rattle.roa_origin.proofs.ChangedRoutes.{all_of, none_more, one_more, reported}
use Rattle.roa_origin.proofs.reevaluation.changed_routes.Goals.{then-differ+in_ok-push, else-differ}
use Rattle.roa_origin.proofs.reevaluation.changed_routes.Goals as goal

pub loop-place-preserved : goal.loop-place-preserved
loop-place-preserved g c =
    let here = reported c.loop-place.place c.index-routes-place.result c.origin.result c.origin-in-loop-place.result
    c.loop-place-test.true c.index-routes-place.is c.origin.ensures c.origin-in-loop-place.ensures in
    elim c.if-differ.branch [
      | then-differ+in_ok-push e ↦
          rw (e.places-is, e.in_ok-push.ensures.items)
          (one_more c.loop-place.invariant (here.0 (c.differ.ensures.0 e.if-differ.true)))
      | else-differ e ↦ rw e.places-is (none_more c.loop-place.invariant (λ is. cc (c.differ.ensures.1 (here.1 is))))
    ]

pub returns : goal.returns
returns g c = all_of c.loop-place.invariant (omega (arith, c.loop-place-test.false))
