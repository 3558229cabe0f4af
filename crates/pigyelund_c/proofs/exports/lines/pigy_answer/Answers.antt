-- A text that is no error message is written.
use Rattle.std.proofs.Common.{inl}
use Rattle.std.specs.String.{string_bytes}
use Rattle.pigyelund_c.specs.Lines.{BeginsAsError}
use Rattle.pigyelund_c.proofs.TestLemmas.{no_truth}
use Rattle.pigyelund_c.proofs.exports.lines.pigy_answer.Goals as goal

pub returns-else-begins_as_error : goal.returns-else-begins_as_error
returns-else-begins_as_error c =
    let value = c.as_bytes-octets.ensures.value in
    let no : ¬ BeginsAsError c.as_bytes-octets.result.now =
    λ begins. no_truth (c.if-begins_as_error.ensures.1 begins) in
    inl (string_bytes c.in-Ok.text, c.in-Ok.ensures, rw value at no, rw value at c.write_items.ensures)
