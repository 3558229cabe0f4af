use Rattle.std.proofs.Common.{arith}
use Rattle.std.proofs.lemmas.Bool.Decides.{nat_tests}
use Rattle.respath_places.proofs.AnswerLemmas.{matched_more}
use Rattle.respath_places.proofs.check.SeenWatch.with.Goals as goal

pub returns : goal.returns
returns c = λ bytes same. grind (arith, nat_tests, matched_more)
