-- The lines of all VRPs but those of the rest are written.
use Rattle.origins_lines.proofs.Common.{length, ◌≡◌, HasWritten, vrp_lines}
use Rattle.origins_lines.proofs.lines.write_vrps.Given as goal

abbrev pub invariant-loop-vrp : goal.invariant-loop-vrp
invariant-loop-vrp g l = record {
  unmarked : g.W.Sink.mark l.writer ≡ g.W.Sink.mark l.fn.writer;
  written : HasWritten (g.W.Sink.written l.fn.writer) (g.W.Sink.written l.writer)
      (vrp_lines l.fn.of l.fn.word l.fn.table) (vrp_lines l.fn.of l.fn.word l.rest);
}

abbrev pub decreases-loop-vrp : goal.decreases-loop-vrp
decreases-loop-vrp g l = length l.rest
