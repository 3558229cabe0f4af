-- The number behind the optional `as` is the answer, and so is its absence.
use Rattle.rpki_base.proofs.AsnLemmas.{reads_ok, reads_err}
use Rattle.rpki_base.proofs.asn.read_any.Goals as goal

pub returns-in-Ok : goal.returns-in-Ok
returns-in-Ok c =
    let after = c.after_as.ensures in
    let number = rw c.from.ensures at c.in-Ok.ensures.found in
    reads_ok c.args.text.now c.after_as.result.now c.in-Ok.value after number

pub returns-in-Err : goal.returns-in-Err
returns-in-Err c =
    let after = c.after_as.ensures in
    let each = rw c.from.ensures at c.in-Err.ensures.each_value in
    reads_err c.args.text.now c.after_as.result.now _ after (λ n h. let e = each n h in cc)
