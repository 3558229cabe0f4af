-- The groups so far are the first ones, and the next one begins after their colon.
use Rattle.rpki_addr.proofs.Common.{Some, drop, read_separator, ◌*◌, ◌-◌, ◌<◌, ◌==◌, ◌^◌, ◌≡◌, ◌≤◌}
use Rattle.rpki_addr.specs.GroupProgress.{IsSoFarAt}
use Rattle.rpki_addr.proofs.addr.usual.usual_groups.Given as goal

abbrev pub invariant-loop-groups : goal.invariant-loop-groups
invariant-loop-groups l = record {
  so_far : IsSoFarAt l.max_count l.text l.groups.bits l.groups.count l.groups.end;
  small : l.groups.bits < 0x10000 ^ l.groups.count;
  next : Some (drop l.at l.text) ≡ read_separator (l.groups.count == 0) (drop l.groups.end l.text);
  place : l.at ≤ 5 * l.groups.count;
  last : l.groups.end ≤ 5 * l.groups.count - 1;
}

abbrev pub decreases-loop-groups : goal.decreases-loop-groups
decreases-loop-groups l = l.max_count - l.groups.count
