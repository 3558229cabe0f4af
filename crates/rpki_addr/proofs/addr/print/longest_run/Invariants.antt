-- The run at this place, and the longest one from it on.
use Rattle.rpki_addr.proofs.Common.{drop, length, ◌+◌, ◌≡◌, ◌≤◌, longest_zero_run, zero_run}
use Rattle.rpki_addr.proofs.addr.print.longest_run.Given as goal

abbrev pub invariant-loop-start : goal.invariant-loop-start
invariant-loop-start l = record {
  place : l.start ≤ length l.groups;
  here : l.len ≡ zero_run (drop l.start l.groups);
  len : l.longest.len ≡ (longest_zero_run (drop l.start l.groups)).1;
  start : l.longest.start ≡ l.start + (longest_zero_run (drop l.start l.groups)).0;
  run_within : l.start + l.len ≤ length l.groups;
  best_within : l.longest.start + l.longest.len ≤ length l.groups;
}

abbrev pub decreases-loop-start : goal.decreases-loop-start
decreases-loop-start l = l.start
