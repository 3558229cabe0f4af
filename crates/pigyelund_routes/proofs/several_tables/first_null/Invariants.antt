-- No handle so far is null.
use Rattle.pigyelund_routes.proofs.Common.{take}
use Rattle.pigyelund_routes.specs.SeveralTables.{AreThere}
use Rattle.pigyelund_routes.proofs.several_tables.first_null.Given as goal

abbrev pub invariant-loop-at : goal.invariant-loop-at
invariant-loop-at l = AreThere (take l.at l.fn.tables)
