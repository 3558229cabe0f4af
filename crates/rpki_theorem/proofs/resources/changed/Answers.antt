-- What is kept is between the two sets.
use Rattle.rpki_theorem.proofs.Common.{IfOk-weaker}
use Rattle.rpki_theorem.proofs.resources.changed.Goals as goal

pub returns : goal.returns
returns g c =
    IfOk-weaker c.union.result _ _ (λ made h. (c.in_ok-kept.kept, c.in_ok-kept.ensures, h)) c.union.ensures
