-- Claims that list a set are an anchor's, and of others some are inherited.
use Rattle.std.proofs.lemmas.Result.{MatchResult-weaker}
use Rattle.rpki_extensions.proofs.Common.{arith}
use Rattle.rpki_extensions.proofs.anchor.anchor_set.Goals as goal

pub returns-in-Ok : goal.returns-in-Ok
returns-in-Ok g c =
    let claims = c.in-Ok.ensures.claims in
    MatchResult-weaker c.listed_by.result c.listed_by.ensures (λ set listed. (_, _, _, claims, listed))
    (λ error ensured. grind (arith, claims, ensured))
