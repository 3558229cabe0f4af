-- The RFC defines the members before.
use Rattle.roa_slurm.proofs.Common.{take, ◌≡◌, members_view, KnowsAll}
use Rattle.roa_slurm.proofs.object.SlurmObject.first_unknown.Given as goal

abbrev pub invariant-loop-member : goal.invariant-loop-member
invariant-loop-member g l = record {
  known : KnowsAll l.self (members_view (take l.member-index l.member-items));
  count : l.number ≡ l.member-index;
}
