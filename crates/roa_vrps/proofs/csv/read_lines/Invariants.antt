-- The lines before the rest are read, and there are no more of them than octets.
use Rattle.roa_vrps.proofs.Common.{length, ◌+◌, ◌≤◌}
use Rattle.roa_vrps.proofs.CsvLemmas.{IsReadSo}
use Rattle.roa_vrps.proofs.csv.read_lines.Given as goal

abbrev pub invariant-loop-rest : goal.invariant-loop-rest
invariant-loop-rest g l = record {
  within : l.number + length l.rest ≤ length l.fn.text;
  read : IsReadSo l.fn.asked l.fn.text l.rest l.number l.columns l.vrps.items l.expiries;
}

abbrev pub decreases-loop-rest : goal.decreases-loop-rest
decreases-loop-rest g l = length l.rest
