-- The lines before the rest are read, and there are no more of them than octets.
use Rattle.pigyelund_routes.proofs.Common.{length, ◌+◌}
use Rattle.std.proofs.Common.{◌≤◌}
use Rattle.pigyelund_routes.proofs.LineRouteLemmas.{AreReadSo}
use Rattle.pigyelund_routes.proofs.lines.line_routes.Given as goal

abbrev pub invariant-loop-rest : goal.invariant-loop-rest
invariant-loop-rest l = record {
  within : l.number + length l.rest ≤ length l.fn.text;
  read : AreReadSo l.fn.text l.rest l.number l.routes.items;
}

abbrev pub decreases-loop-rest : goal.decreases-loop-rest
decreases-loop-rest l = length l.rest
