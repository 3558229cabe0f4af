-- The outcome is that of the members before.
use Rattle.roa_vrps.proofs.Common.{IsRoasResult, Json, List, length, members, roas, value, values_in, ◌≤◌}
use Rattle.roa_vrps.proofs.JsonLemmas.{AreReadSo}
use Rattle.roa_vrps.proofs.roas.read_members.Given as goal

abbrev pub invariant-loop-outcome : goal.invariant-loop-outcome
invariant-loop-outcome g l = record {
  read :
      (js : List Json) × AreReadSo (members (value l.depth)) (values_in roas) l.initial.reader l.reader js
      × IsRoasResult l.asked js l.outcome;
  within : length l.reader ≤ length l.initial.reader;
}

abbrev pub decreases-loop-outcome : goal.decreases-loop-outcome
decreases-loop-outcome g l = length l.reader
