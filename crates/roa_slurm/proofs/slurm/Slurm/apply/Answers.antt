use Rattle.roa_slurm.proofs.Common.{arith}
use Rattle.roa_slurm.proofs.AppliedLemmas.{applied_all, kept_more}
use Rattle.roa_slurm.proofs.slurm.Slurm.apply.Goals.{then-not-removes+in_ok-push, else-not-removes}
use Rattle.roa_slurm.proofs.slurm.Slurm.apply.Goals as goal

-- the next VRP stays, or it is removed
pub loop-vrp-preserved : goal.loop-vrp-preserved
loop-vrp-preserved g c =
    let more =
    kept_more c.args.self.now.filters.items c.args.vrps.now c.loop-vrp.changed.items c.loop-vrp.vrp-index
    c.vrp-item.result c.loop-vrp-test.true c.vrp-item.is c.loop-vrp.invariant c.removes.result c.removes.ensures in
    elim c.if-not-removes.branch [
      | then-not-removes+in_ok-push w ↦
          rw (w.changed-is, w.in_ok-push.ensures.items) (more.0 (grind (arith, w.if-not-removes.true)))
      | else-not-removes w ↦ rw w.changed-is (more.1 (grind (arith, w.if-not-removes.false)))
    ]

pub returns : goal.returns
returns g c =
    applied_all c.args.self.now.filters.items c.args.self.now.assertions.items c.args.vrps.now c.loop-vrp.changed.items
    _
    c.loop-vrp.vrp-index (omega (arith, c.loop-vrp-test.false)) c.loop-vrp.invariant
    (rw c.as_slice.ensures.value at c.in_ok-extend_from_slice.ensures.items)
