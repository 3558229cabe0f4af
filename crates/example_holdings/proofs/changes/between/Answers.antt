-- The law of changes, for each difference that the call may answer.
use Rattle.std.proofs.lemmas.Result.{IfOk-weaker}
use Rattle.example_holdings.proofs.changes.between.Goals as goal

pub returns-clause-leads : goal.returns-clause-leads
returns-clause-leads g c =
    let gets = c.args.gets.now in
    let had = c.args.had.now in
    IfOk-weaker c.difference.result _ _
    (λ changes are kept set left both. c.laws_of_changes.ensures.restores gets had changes kept set
    c.recall_invariant.ensures are left both) c.difference.ensures
