-- Those of the VRPs before that no filter matches.
use Rattle.std.specs.Prelude.{filter}
use Rattle.roa_slurm.proofs.Common.{take, ◌≡◌}
use Rattle.roa_slurm.proofs.AppliedLemmas.{stays}
use Rattle.roa_slurm.proofs.slurm.Slurm.apply.Given as goal

abbrev pub invariant-loop-vrp : goal.invariant-loop-vrp
invariant-loop-vrp g l = l.changed.items ≡ filter (stays l.self.filters.items) (take l.vrp-index l.vrps)
