-- No space was passed.
use Rattle.respath_lines.proofs.Common.{false, get_or, length, ℕ, ◌-◌, ◌<◌, ◌≡◌, ◌≤◌, is_space}
use Rattle.respath_lines.proofs.command.first_space.Given as goal

abbrev pub invariant-loop-at : goal.invariant-loop-at
invariant-loop-at l = record {
  within : l.at ≤ length l.text;
  none : (k : ℕ) → k < l.at → is_space (get_or l.text k 0) ≡ false;
}

abbrev pub decreases-loop-at : goal.decreases-loop-at
decreases-loop-at l = length l.text - l.at
