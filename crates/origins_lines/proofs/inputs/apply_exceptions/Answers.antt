-- The exceptions are those of the SLURM file.
use Rattle.roa_slurm.specs.SlurmFiles.{slurm_value}
use Rattle.origins_lines.proofs.inputs.apply_exceptions.Goals as goal

pub returns-in-Ok-read-clause-applied : goal.returns-in-Ok-read-clause-applied
returns-in-Ok-read-clause-applied g c = rw c.in-Some.is (
  slurm_value c.in-Ok-read.exceptions,
  rw c.in-Ok.ensures.file.1 at c.in-Ok-read.ensures.found,
  rw c.as_slice.ensures.value at c.in_ok-apply-in-Ok-read.ensures,
)
