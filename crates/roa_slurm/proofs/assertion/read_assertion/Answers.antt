use Rattle.std.proofs.lemmas.Result.{err_from_is_err_and}
use Rattle.roa_slurm.proofs.Common.{members_view}
use Rattle.roa_slurm.proofs.EntryLemmas.{assertion_asn, assertion_comment, assertion_longest}
use Rattle.roa_slurm.proofs.assertion.read_assertion.Goals as goal

pub returns-in_err-asn : goal.returns-in_err-asn
returns-in_err-asn g c =
    let p = err_from_is_err_and c.from_residual-in_err-asn.result c.from_residual-in_err-asn.ensures.1 in
    rw (p.1, p.2)
    (assertion_asn (members_view c.args.members.now.items) _ c.in_ok-prefix.prefix c.in_ok-prefix.ensures
    c.in_err-asn.ensures)

pub returns-in_err-prefix-2 : goal.returns-in_err-prefix-2
returns-in_err-prefix-2 g c =
    let p = err_from_is_err_and c.from_residual-in_err-prefix-2.result c.from_residual-in_err-prefix-2.ensures.1 in
    rw (p.1, p.2)
    (assertion_longest (members_view c.args.members.now.items) _ c.in_ok-prefix.prefix c.in_ok-asn.asn
    c.in_ok-prefix.ensures c.in_ok-asn.ensures c.in_err-prefix-2.ensures)

pub returns-in_err-_comment : goal.returns-in_err-_comment
returns-in_err-_comment g c =
    let p = err_from_is_err_and c.from_residual-in_err-_comment.result c.from_residual-in_err-_comment.ensures.1 in
    let (len, allows, _) = c.in_ok-prefix-2.ensures in
    rw (p.1, p.2)
    (assertion_comment (members_view c.args.members.now.items) _ c.in_ok-prefix.prefix c.in_ok-asn.asn len
    c.in_ok-prefix.ensures c.in_ok-asn.ensures allows c.in_err-_comment.ensures)
