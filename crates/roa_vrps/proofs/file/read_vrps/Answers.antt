use Rattle.roa_vrps.proofs.Common.{Err, Ok}
use Rattle.roa_vrps.proofs.FileLemmas.{file_exact}
use Rattle.roa_vrps.proofs.Outcomes.{answers}
use Rattle.roa_vrps.proofs.file.read_vrps.Goals as goal

pub returns-in-Ok-clause-answers : goal.returns-in-Ok-clause-answers
returns-in-Ok-clause-answers g c =
    let found = c.in-Ok.ensures in
    answers (file_exact c.args.text.now) ⊥ (λ vrps. vrps.items) (Ok c.in-Ok.found.vrps)
    (found.entries, found.entries_are, found.vrps_are)

pub returns-in-Err-clause-answers : goal.returns-in-Err-clause-answers
returns-in-Err-clause-answers g c =
    answers (file_exact c.args.text.now) _ (λ vrps. vrps.items) (Err c.in-Err.error) c.in-Err.ensures
