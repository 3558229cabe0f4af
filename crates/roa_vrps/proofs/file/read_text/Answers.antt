use Rattle.roa_vrps.proofs.Common.{IsCsvText, IsObjectText, arith, inl, inr}
use Rattle.roa_vrps.proofs.Outcomes.{result_as}
use Rattle.roa_vrps.proofs.file.read_text.Goals as goal

pub returns-then-opens_object : goal.returns-then-opens_object
returns-then-opens_object g c =
    let object : IsObjectText c.args.text.now = c.opens_object.ensures.0 c.if-opens_object.true in
    result_as c.args.asked c.read_json.result (λ entries are. inl (object, are)) (λ fault wrong. inl (object, wrong))
    (λ utf8. inl (object, utf8)) c.read_json.ensures

pub returns-else-opens_array : goal.returns-else-opens_array
returns-else-opens_array g c =
    let csv : IsCsvText c.args.text.now = grind arith in
    result_as c.args.asked c.read_csv.result (λ entries are. inr (csv, are)) (λ fault wrong. inr (inr (csv, wrong)))
    (λ wants. inr (csv, wants)) c.read_csv.ensures
