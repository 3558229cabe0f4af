use Rattle.roa_routes.proofs.FieldLemmas.{last_none, last_some}
use Rattle.roa_routes.proofs.route.last_word.Goals as goal

pub returns-in-Some : goal.returns-in-Some
returns-in-Some c = last_some c.args.text.now _ c.in-Some.word.now c.in-Some.ensures.cases

pub returns-in-None : goal.returns-in-None
returns-in-None c = last_none c.args.text.now c.in-None.ensures.cases
