-- None was found so far.
use Rattle.roa_origin.proofs.Common.{ℕ, ◌<◌, IsUnknownWithdrawal}
use Rattle.roa_origin.proofs.updates.first_unknown.Given as goal

abbrev pub invariant-loop-place : goal.invariant-loop-place
invariant-loop-place l = (n : ℕ) → n < l.place → ¬ IsUnknownWithdrawal l.table l.withdrawn n
