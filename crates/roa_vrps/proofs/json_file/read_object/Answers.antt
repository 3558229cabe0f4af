use Rattle.roa_vrps.proofs.Common.{arith, token_of}
use Rattle.roa_vrps.proofs.JsonLemmas.{more_in, object_in, wrong_in}
use Rattle.roa_vrps.proofs.json_file.read_object.Goals as goal

pub returns-in_err-outcome-clause-invalid : goal.returns-in_err-outcome-clause-invalid
returns-in_err-outcome-clause-invalid g c invalid =
    wrong_in _ _ c.in_ok-reader.ensures.ok _ c.if-not-begins_object.ensures
    (c.in_err-outcome.ensures.invalid (grind arith))

pub returns-in-None-clause-outcome : goal.returns-in-None-clause-outcome
returns-in-None-clause-outcome g c =
    let (ms, reads, read) = c.in_ok-outcome.ensures.outcome in
    let opens = c.if-not-begins_object.ensures in
    (ms, object_in _ _ c.in_ok-reader.ensures.ok _ opens _ ms read c.in-None.ensures.value.0, reads)

pub returns-clause-invalid : goal.returns-clause-invalid
returns-clause-invalid g c invalid =
    let (ms, _, read) = c.in_ok-outcome.ensures.outcome in
    more_in _ _ c.in_ok-reader.ensures.ok _ c.if-not-begins_object.ensures _ _ (token_of c.in-Some.field-0) ms read
    c.in-Some.ensures.value
