use Rattle.roa_slurm.proofs.FileOutcomes.{slurm_answer, slurm_found, slurm_wants}
use Rattle.roa_slurm.specs.SlurmFiles.{slurm_value}
use Rattle.roa_slurm.proofs.file.read_slurm.Goals as goal

pub returns-clause-answers : goal.returns-clause-answers
returns-clause-answers g c =
    slurm_answer c.args.text.now slurm_value c.read_text.result
    (slurm_found c.args.text.now c.without_mark.result.now slurm_value c.read_text.result c.without_mark.ensures
    c.read_text.ensures.found)

pub returns-clause-memory : goal.returns-clause-memory
returns-clause-memory g c =
    slurm_wants c.args.text.now c.without_mark.result.now c.read_text.result c.without_mark.ensures
    c.read_text.ensures.memory
