-- What is printed is the text of the changes that were found.
use Rattle.std.proofs.Common.{refl}
use Rattle.std.proofs.lemmas.Result.{IfOk-weaker}
use Rattle.rpki_resources.specs.TripleText.{changes_text}
use Rattle.example_holdings.proofs.changes.printed.Goals as goal

pub returns : goal.returns
returns g c =
    let changes = c.in_ok-between.field-0 in
    IfOk-weaker c.text.result _ _
    (λ text is. (changes, c.in_ok-between.ensures.changes, c.in_ok-between.ensures.leads, is))
    (c.text.ensures (changes_text changes) refl)
