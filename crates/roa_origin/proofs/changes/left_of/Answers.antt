-- The next VRP is kept where the other list hasn't it.
use Rattle.roa_origin.proofs.Common.{arith, ◌≡◌, take_all, Less, vrp_cmp}
use Rattle.roa_origin.proofs.ListMembers.{those_are, those_have, those_ordered}
use Rattle.roa_origin.proofs.VrpOrder.{ties, total}
use Rattle.roa_origin.proofs.ListDifference.{turned}
use Rattle.roa_origin.proofs.changes.left_of.Goals.{then-not-stands_at+in_ok-push, else-not-stands_at}
use Rattle.roa_origin.proofs.changes.left_of.Goals as goal

pub loop-vrp-preserved : goal.loop-vrp-preserved
loop-vrp-preserved g c =
    let at = c.not_less-at.ensures in
    let turn = turned total ties c.loop-vrp.invariant c.requires.one c.requires.other c.loop-vrp-test.true
    c.vrp-item.is at.within at.less at.not_less in
    elim c.if-not-stands_at.branch [
      | then-not-stands_at+in_ok-push w ↦
          rw (w.left-is, w.in_ok-push.ensures.items) (turn.0 (grind (arith, w.if-not-stands_at.true)))
      | else-not-stands_at w ↦ rw w.left-is (turn.1 (c.stands_at.ensures.0 w.if-not-stands_at.false))
    ]

pub returns : goal.returns
returns g c =
    let one = c.args.one.now in
    let all = take_all c.loop-vrp.vrp-index one (omega (arith, c.loop-vrp-test.false)) in
    let stays = rw all at c.loop-vrp.invariant.stays in
    let are = those_are _ one c.loop-vrp.left.items in record {
      ascending = those_ordered _ (λ p q. vrp_cmp p q ≡ Less) one _ stays c.requires.one;
      members = λ p. ((λ h. let is = are p stays h in (is.1, is.0)), λ h. those_have _ one _ p stays h.0 h.1);
    }
