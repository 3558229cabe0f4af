use Rattle.respath_lines.proofs.Common.{map, HaveValues, IsStepText}
use Rattle.respath_lines.proofs.steps.read_steps.Given as goal

-- the steps so far are those of the parts so far
abbrev pub invariant-loop-part : goal.invariant-loop-part
invariant-loop-part g l =
    HaveValues (IsStepText g.L.Lists.claim (g.L.Lists.writes l.lists)) (map (λ p. p.now) l.yielded) l.steps.items
