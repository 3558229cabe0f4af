-- The VRP at the place is less too.
use Rattle.roa_origin.proofs.Common.{arith, inl, inr, ◌≡◌, cases_lt, get_or_default, Less, Vrp, vrp_cmp}
use Rattle.roa_origin.proofs.VrpOrder.{less_of}
use Rattle.roa_origin.proofs.changes.not_less.Goals as goal

pub loop-at-preserved : goal.loop-at-preserved
loop-at-preserved c =
    let at = c.loop-at.at in
    let x : Vrp = c.index-vrps-at.result in
    let here : vrp_cmp x c.args.vrp.now ≡ Less = less_of _ (cc) in
    let there = c.loop-at-test.true in (
      omega (arith, c.loop-at.invariant.0),
      omega (arith, there),
      λ k d from low. elim (cases_lt k at) [
        | inl old ↦ c.loop-at.invariant.2 k d from old
        | inr new ↦ (
            let same : k ≡ at = omega (arith, low, new) in
            rw (same, ← get_or_default c.args.vrps.now at x d there, ← c.index-vrps-at.is) here)
      ],
    )
