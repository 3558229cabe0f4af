-- The group has the lines before the rest, and the answers to them are begun.
use Rattle.lines_engine.proofs.Common.{List, length, vec_len, ℕ, ◌++◌, ◌+◌, ◌≡◌, ◌≤◌, lines_of, AnswersAreBegun}
use Rattle.lines_engine.proofs.Common.{group_lines}
use Rattle.lines_engine.proofs.group.begin_lines.Given as goal

abbrev pub invariant-loop-rest : goal.invariant-loop-rest
invariant-loop-rest g l = record {
  begun : AnswersAreBegun (g.L.Steps.is_begun l.answers) l.group.items;
  lines : (more : List ℕ)
      → lines_of (l.fn.text ++ more) ≡ group_lines l.group.items ++ lines_of (l.rest ++ more);
  shorter : vec_len l.group + length l.rest ≤ length l.fn.text;
}

abbrev pub decreases-loop-rest : goal.decreases-loop-rest
decreases-loop-rest g l = length l.rest
