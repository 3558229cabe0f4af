use Rattle.std.specs.Fn.{FnReturnsAt}
use Rattle.test_support.specs.InTurn.{EachRunBefore}
use Rattle.test_support.specs.declared.in_turn.Outcome.TheVariants.{OutOfMemory}
use Rattle.test_support.proofs.in_turn.refuse_in_turn.Given as goal

abbrev pub invariant-loop-number : goal.invariant-loop-number
invariant-loop-number g l = EachRunBefore (FnReturnsAt g.F.Fn l.run) OutOfMemory l.number
