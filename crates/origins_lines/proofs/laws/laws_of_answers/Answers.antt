use Rattle.origins_lines.proofs.Common.{IsPermutation-sym}
use Rattle.origins_lines.proofs.OrderLemmas.{answer_one, any_order}
use Rattle.origins_lines.proofs.laws.laws_of_answers.Goals as goal

pub returns-clause-one : goal.returns-clause-one
returns-clause-one c = answer_one

pub returns-clause-any_order : goal.returns-clause-any_order
returns-clause-any_order c form why vrps others line text moved =
    let back = IsPermutation-sym vrps others moved in
    (any_order form why vrps others line text moved, any_order form why others vrps line text back)
