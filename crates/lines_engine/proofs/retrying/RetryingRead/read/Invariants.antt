-- An interrupted read took nothing.
use Rattle.std.specs.Io.KnownBytes.{Keeps}
use Rattle.lines_engine.proofs.retrying.RetryingRead.read.Given as goal

abbrev pub invariant-loop : goal.invariant-loop
invariant-loop g l = Keeps (g.R.Read.remaining l.initial.self.reader) (g.R.Read.remaining l.self.reader)
