use Rattle.roa_slurm.proofs.Common.{arith, ◌+◌}
use Rattle.roa_slurm.proofs.ObjectLemmas.{known_more, unknown_at}
use Rattle.roa_slurm.proofs.object.SlurmObject.first_unknown.Goals as goal

pub returns-then-not-defines : goal.returns-then-not-defines
returns-then-not-defines g c =
    rw c.deref-member-items.ensures.value at
    (unknown_at c.args.self 1 (c.loop-member.number + 1) c.deref-member-items.result.now c.loop-member.member-index
    c.member-item.result c.loop-member-test.true c.member-item.is c.loop-member.invariant.known
    (λ h. grind (arith, c.defines.ensures.1 h)) (omega (arith, c.loop-member.invariant.count)))

pub loop-member-preserved : goal.loop-member-preserved
loop-member-preserved g c = record {
  known = known_more c.args.self _ _ _ c.loop-member-test.true c.member-item.is c.loop-member.invariant.known
      (c.defines.ensures.0 (grind arith));
  count = omega (arith, c.loop-member.invariant.count);
}
