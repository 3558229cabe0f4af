-- The search is over the numbered parts between the commas.
use Rattle.std.proofs.Common.{lit<, rules, tests}
use Rattle.std.proofs.lemmas.Iterator.{first_from_find}
use Rattle.std.proofs.lemmas.Iterator.Consumers.{YieldsList-at, YieldsList-from_enumerate}
use Rattle.std.proofs.lemmas.Iterator.Splits.{YieldsList-from_str_split}
use Rattle.respath_places.specs.Places.{IsElement}
use Rattle.respath_places.proofs.place.first_wrong.Goals as goal

pub returns : goal.returns
returns c =
    let split = c.split.ensures in
    let parts = YieldsList-from_str_split 44 c.args.list.now (lit< tt) split.text split.has_more split.pattern in
    let numbered =
    YieldsList-from_enumerate (YieldsList-at c.enumerate.ensures.source parts) c.enumerate.ensures.count in
    first_from_find _ _ c.find.result (λ p. ¬ IsElement c.args.kind p.1) (λ p. IsElement c.args.kind p.1)
    c.find.ensures.ran numbered (λ x q k. search (rules, tests)) (λ x q k. search (rules, tests))
