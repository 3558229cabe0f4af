use Rattle.std.proofs.lemmas.Result.{err_from_is_err_and}
use Rattle.roa_slurm.proofs.Common.{members_view}
use Rattle.roa_slurm.proofs.EntryLemmas.{key_identifier}
use Rattle.roa_slurm.proofs.bgpsec.check_key.Goals as goal

pub returns-in_err-check_required_text : goal.returns-in_err-check_required_text
returns-in_err-check_required_text g c =
    let p = err_from_is_err_and c.from_residual-in_err-check_required_text.result
    c.from_residual-in_err-check_required_text.ensures.1 in
    rw (p.1, p.2)
    (key_identifier (members_view c.args.members.now.items) _ c.in_ok-_asn._asn c.in_ok-_asn.ensures
    c.in_err-check_required_text.ensures)
