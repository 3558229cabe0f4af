-- What the loop over the members keeps.
use Rattle.rpki_der.proofs.Common.{length, ◌≡◌, is_strict, left, member_by, members_by, none_found}
use Rattle.rpki_der.proofs.FamiliesLoops.{SoFar}
use Rattle.rpki_der.proofs.sequences.families.members_within.Given as goal

-- what was found, and what is left, give the whole
abbrev pub invariant-loop-inside : goal.invariant-loop-inside
invariant-loop-inside g l =
    let member = member_by (is_strict l.fn.content) (g.R.ReadClaim.reading_by l.reader (is_strict l.fn.content)) in
    record {
      mode : is_strict l.inside ≡ is_strict l.fn.content;
      so_far : SoFar member (g.R.ReadClaim.says l.reader) l.found (left l.inside)
          (members_by member (length (left l.fn.content)) none_found (left l.fn.content));
    }

abbrev pub decreases-loop-inside : goal.decreases-loop-inside
decreases-loop-inside g l = length (left l.inside)
