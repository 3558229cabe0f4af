-- What is left to pass leads to the field.
use Rattle.roa_vrps.proofs.Common.{Utf8, after_commas, shadow, ◌≡◌}
use Rattle.roa_vrps.proofs.columns.field_at.Given as goal

abbrev pub invariant-loop-left : goal.invariant-loop-left
invariant-loop-left l = (after_commas l.left l.rest ≡ after_commas l.commas l.line) × shadow (Utf8 l.rest)

abbrev pub decreases-loop-left : goal.decreases-loop-left
decreases-loop-left l = l.left
