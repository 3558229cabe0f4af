-- What was found is the answer of the members before.
use Rattle.roa_vrps.proofs.Common.{IsFound, members_view, take, values_in}
use Rattle.roa_vrps.proofs.member.only.Given as goal

abbrev pub invariant-loop-member : goal.invariant-loop-member
invariant-loop-member g l = IsFound (values_in l.name (members_view (take l.member-index l.member-items))) l.found
