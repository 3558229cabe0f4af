use Rattle.roa_vrps.proofs.Common.{arith, eqb-true, nil_from_length}
use Rattle.roa_vrps.proofs.ColumnLemmas.{looked_all}
use Rattle.roa_vrps.proofs.columns.Column.place.Goals as goal

-- no field is left
pub returns : goal.returns
returns c = grind (arith, eqb-true, looked_all, nil_from_length)
