use Rattle.std.proofs.lemmas.Result.{err_from_is_err_and}
use Rattle.roa_slurm.proofs.Common.{Ski, members_view}
use Rattle.roa_slurm.proofs.EntryLemmas.{key_filter_comment, optional_has}
use Rattle.roa_slurm.proofs.bgpsec.check_key_filter.Goals as goal

pub returns-in_err-_comment : goal.returns-in_err-_comment
returns-in_err-_comment g c =
    let p = err_from_is_err_and c.from_residual-in_err-_comment.result c.from_residual-in_err-_comment.ensures.1 in
    rw (p.1, p.2)
    (key_filter_comment (members_view c.args.members.now.items) _ c.in_ok-asn.asn c.in_ok-asn.ensures
    (optional_has Ski (members_view c.args.members.now.items) _ c.in_ok-identifier.ensures) c.in_err-_comment.ensures)
