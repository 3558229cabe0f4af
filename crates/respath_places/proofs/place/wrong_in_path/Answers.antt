-- The search is over the numbered parts between the bars.
use Rattle.std.proofs.Common.{List, lit<, rules, tests, ℕ}
use Rattle.std.proofs.lemmas.Iterator.{first_from_find}
use Rattle.std.proofs.lemmas.Iterator.Consumers.{YieldsList-at, YieldsList-from_enumerate}
use Rattle.std.proofs.lemmas.Iterator.Splits.{YieldsList-from_str_split}
use Rattle.std.specs.Prelude.{IfSome, MatchOption, None, Some, ⊤}
use Rattle.respath_places.specs.Places.{IsPart, IsWrongPart, IsWrongPath}
use Rattle.respath_places.proofs.place.wrong_in_path.Goals as goal

pub returns : goal.returns
returns c =
    let split = c.split.ensures in
    let parts = YieldsList-from_str_split 124 c.args.path.now (lit< tt) split.text split.has_more split.pattern in
    let numbered =
    YieldsList-from_enumerate (YieldsList-at c.enumerate.ensures.source parts) c.enumerate.ensures.count in
    let at =
    rw c.in_ok-found.was at (first_from_find _ _ c.find.result (λ _. ⊤) (IsPart c.args.kind)
    c.find.ensures.ran numbered (λ x q k. tt) (λ x q k. search (rules, tests))) in
    let part : ℕ × List ℕ = (c.in_ok-found.found.0, c.in_ok-found.found.1.now) in
    (elim c.wrong_in_part.result as (λ r. MatchOption r (IsPart c.args.kind part) (IsWrongPart c.args.kind part)
    → IfSome r (IsWrongPath c.args.kind c.args.path.now)) [
      | None ↦ λ _. tt
      | Some place ↦ λ wrong. (part, (wrong, at.1, at.2, at.3, at.4))
    ]) c.wrong_in_part.ensures
