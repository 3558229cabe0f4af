-- The values are still those of the lines, and the lines are the same.
use Rattle.lines_engine.proofs.Common.{◌≡◌, AnswersAreBegun, group_lines}
use Rattle.lines_engine.proofs.group.advance_lines.Given as goal

abbrev pub invariant-loop : goal.invariant-loop
invariant-loop g l = record {
  begun : AnswersAreBegun (g.L.Steps.is_begun l.answers) l.group;
  lines : group_lines l.group ≡ group_lines l.fn.group;
}

abbrev pub invariant-loop-asked : goal.invariant-loop-asked
invariant-loop-asked g l = record {
  begun : AnswersAreBegun (g.L.Steps.is_begun l.answers) l.group;
  lines : group_lines l.group ≡ group_lines l.fn.group;
}
