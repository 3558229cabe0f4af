-- The place that is found is that of the answer.
use Rattle.std.proofs.Common.{inr}
use Rattle.std.proofs.lemmas.Result.{on_ok_weaker}
use Rattle.respath_places.proofs.CommandsWithPlacesAnswers.answer.Goals as goal

pub returns-in-Some : goal.returns-in-Some
returns-in-Some g c =
    let is = rw (c.in-Some.is, c.as_str.ensures.value) at c.in_ok-place.ensures in
    on_ok_weaker c.push_place.result (λ wrote. (_, c.in_ok-put_answer.ensures, inr (c.in-Some.place, is, wrote)))
    c.push_place.ensures
