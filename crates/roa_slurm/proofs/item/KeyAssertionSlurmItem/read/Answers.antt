use Rattle.std.proofs.lemmas.Result.{err_from_is_err_and}
use Rattle.roa_slurm.proofs.Common.{inr, members_view}
use Rattle.roa_slurm.proofs.item.KeyAssertionSlurmItem.read.Goals as goal

pub returns-in_err-check_key : goal.returns-in_err-check_key
returns-in_err-check_key g c =
    let p = err_from_is_err_and c.from_residual-in_err-check_key.result c.from_residual-in_err-check_key.ensures.1 in
    rw (p.1, p.2)
    (inr (members_view c.in_ok-members.members.now.items, c.in_ok-members.ensures, c.in_err-check_key.ensures))
