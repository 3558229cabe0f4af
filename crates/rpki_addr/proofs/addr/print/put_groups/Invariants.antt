-- The first group and those so far are written.
use Rattle.rpki_addr.proofs.Common.{get_or, take, ◌*◌, ◌++◌, ◌+◌, ◌∷◌, ◌≡◌, ◌≤◌, groups_text}
use Rattle.rpki_addr.proofs.addr.print.put_groups.Given as goal

abbrev pub invariant-loop-group : goal.invariant-loop-group
invariant-loop-group l = record {
  text : take l.end l.out ≡ take l.at l.fn.out ++ groups_text (get_or l.groups 0 0 ∷ take l.group-index l.rest);
  within : l.end + 1 ≤ l.at + 5 * (l.group-index + 1);
}
