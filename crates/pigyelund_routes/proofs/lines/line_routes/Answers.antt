-- No line is left.
use Rattle.std.proofs.Common.{arith}
use Rattle.std.proofs.lemmas.Bool.{eqb-true}
use Rattle.std.proofs.lemmas.List.{nil_from_length}
use Rattle.pigyelund_routes.proofs.LineRouteLemmas.{read_all}
use Rattle.pigyelund_routes.proofs.lines.line_routes.Goals as goal

pub returns : goal.returns
returns c = read_all _ _ _ _ c.loop-rest.invariant.read (grind (arith, eqb-true, nil_from_length))
