-- What is left behind all members is left behind the next ones.
use Rattle.roa_vrps.proofs.Common.{left, length, members, value, ℕ, ◌≡◌, ◌≤◌}
use Rattle.roa_vrps.proofs.JsonLemmas.{members_in}
use Rattle.roa_vrps.proofs.roas.skip_members.Given as goal

abbrev pub invariant-loop-reader : goal.invariant-loop-reader
invariant-loop-reader l = record {
  rest :
      (most : ℕ) × (length l.reader ≤ most)
      × (left (members_in l.depth l.initial.reader) ≡ left (members (value l.depth) most l.reader));
  within : length l.reader ≤ length l.initial.reader;
}

abbrev pub decreases-loop-reader : goal.decreases-loop-reader
decreases-loop-reader l = length l.reader
