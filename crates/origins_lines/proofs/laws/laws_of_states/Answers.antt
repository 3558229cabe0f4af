use Rattle.origins_lines.proofs.StateLemmas.{answer_faulty}
use Rattle.origins_lines.specs.declared.explanation.Form.TheVariants.{Json, Words}
use Rattle.origins_lines.proofs.laws.laws_of_states.Goals as goal

pub returns-clause-word : goal.returns-clause-word
returns-clause-word c why vrps line text is = answer_faulty vrps line Words why text is

pub returns-clause-object : goal.returns-clause-object
returns-clause-object c why vrps line text is = answer_faulty vrps line Json why text is
