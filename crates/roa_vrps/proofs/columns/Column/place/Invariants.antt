-- The fields before the rest aren't the column's name, and there are no more of them than octets.
use Rattle.roa_vrps.proofs.Common.{Utf8, length, shadow, ◌+◌, ◌≤◌}
use Rattle.roa_vrps.proofs.ColumnLemmas.{AreLooked}
use Rattle.roa_vrps.proofs.columns.Column.place.Given as goal

abbrev pub invariant-loop-rest : goal.invariant-loop-rest
invariant-loop-rest l = record {
  within : l.commas + length l.rest ≤ length l.line;
  looked : AreLooked l.self l.line l.rest l.commas;
  text : shadow (Utf8 l.rest);
}

abbrev pub decreases-loop-rest : goal.decreases-loop-rest
decreases-loop-rest l = length l.rest
