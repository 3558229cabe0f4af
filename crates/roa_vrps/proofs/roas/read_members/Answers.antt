use Rattle.roa_vrps.proofs.Common.{arith, member, members_end, members_more, no_members}
use Rattle.roa_vrps.proofs.Common.{read_key-shorter, refl, []}
use Rattle.roa_vrps.proofs.JsonLemmas.{all_read, none_read, part_read}
use Rattle.roa_vrps.proofs.roas.read_members.Goals as goal

pub loop-outcome-init : goal.loop-outcome-init
loop-outcome-init g c = record { read = ([], none_read _ _ _, grind (arith)); within = omega arith }

-- a member more
pub loop-outcome-preserved : goal.loop-outcome-preserved
loop-outcome-preserved g c =
    let (js, had, is) = c.loop-outcome.invariant.read in
    let key = rw c.in-Some.is at c.in_ok-key.ensures.value in
    let less = read_key-shorter _ _ _ key in
    let shorter = c.in_ok-outcome.ensures.shorter in
    let (j, read, next) = c.in_ok-outcome.ensures.reads js is in
    let more = members_more _ had.most _ _ _ _ j (omega (arith, had.enough, less)) key read in
    record {
      read = (
        _,
        part_read _ _ _ _ js had _ (member c.in-Some.key.now j) _ (omega (arith, shorter, less)) more
            (λ ms. grind arith),
        next,
      );
      within = omega (arith, shorter, less);
    }

-- no member is left
pub returns-clause-outcome : goal.returns-clause-outcome
returns-clause-outcome g c =
    let (js, had, is) = c.loop-outcome.invariant.read in
    let end = members_end _ had.most _ _ had.enough (grind arith) in
    let (all, whole, are) = all_read _ _ _ _ js had no_members c.next_key.new.self end refl in
    (all, rw are is, whole)
