use Rattle.std.proofs.lemmas.Result.{err_from_is_err_and}
use Rattle.roa_slurm.proofs.Common.{inr, members_view}
use Rattle.roa_slurm.proofs.item.KeyFilterSlurmItem.read.Goals as goal

pub returns-in_err-check_key_filter : goal.returns-in_err-check_key_filter
returns-in_err-check_key_filter g c =
    let p =
    err_from_is_err_and c.from_residual-in_err-check_key_filter.result
    c.from_residual-in_err-check_key_filter.ensures.1 in
    rw (p.1, p.2)
    (inr (members_view c.in_ok-members.members.now.items, c.in_ok-members.ensures, c.in_err-check_key_filter.ensures))
