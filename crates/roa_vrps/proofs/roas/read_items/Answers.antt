use Rattle.roa_vrps.proofs.Common.{arith, inr, item, items_end, items_fail, items_more, left_none, left_some, no_items}
use Rattle.roa_vrps.proofs.Common.{Json, refl, [], ◌∷◌}
use Rattle.roa_vrps.proofs.JsonLemmas.{all_read, none_read, part_read}
use Rattle.roa_vrps.proofs.MemberLemmas.{wrong_keep}
use Rattle.roa_vrps.proofs.Outcomes.{found_as}
use Rattle.roa_vrps.proofs.roas.read_items.Goals as goal

pub loop-alloc-init : goal.loop-alloc-init
loop-alloc-init g c =
    record {
      read = (
        [],
        none_read _ _ _,
        record {
          entries = [];
          entries_are = refl;
          vrps_are = c.new.ensures.items;
          read = λ wanted. c.new-2.ensures.items;
        },
      );
      within = omega arith;
    }

pub returns-in_err-fault-in-None-clause-invalid : goal.returns-in_err-fault-in-None-clause-invalid
returns-in_err-fault-in-None-clause-invalid g c invalid =
    let (js, had, is) = c.loop-alloc.invariant.read in
    let (going, same) = c.loop-alloc-test.ensures in
    had.fails (items_fail _ had.most _ going (rw same at c.in_err-fault-in-None.ensures.invalid (grind arith)))

pub returns-in_err-skip_value-in-Some-clause-invalid : goal.returns-in_err-skip_value-in-Some-clause-invalid
returns-in_err-skip_value-in-Some-clause-invalid g c invalid =
    let (js, had, is) = c.loop-alloc.invariant.read in
    let (going, same) = c.loop-alloc-test.ensures in
    let failed = left_none {A = Json} _ (rw same at c.in_err-skip_value-in-Some.ensures.value) in
    had.fails (items_fail _ had.most _ going failed)

-- an item more
pub loop-alloc-preserved-in-None : goal.loop-alloc-preserved-in-None
loop-alloc-preserved-in-None g c =
    let (js, had, is) = c.loop-alloc.invariant.read in
    let (going, same) = c.loop-alloc-test.ensures in
    let (j, read, next) = c.in_ok-fault-in-None.ensures.reads js (rw c.in-None.is at is) in
    let less = rw same at c.in_ok-fault-in-None.ensures.shorter in
    let more = items_more _ had.most _ _ j (omega (arith, had.enough, less)) going (rw same at read) in
    record {
      read = (_, part_read _ _ _ _ js had _ (item j) (j ∷ []) less more (λ x. refl), next);
      within = omega (arith, c.loop-alloc.invariant.within, less);
    }

-- an item after one with a fault
pub loop-alloc-preserved : goal.loop-alloc-preserved
loop-alloc-preserved g c =
    let (js, had, is) = c.loop-alloc.invariant.read in
    let (going, same) = c.loop-alloc-test.ensures in
    let (j, read) = left_some {A = Json} _ _ (rw same at c.in_ok-skip_value-in-Some.ensures.value) in
    let less = rw same at c.in_ok-skip_value-in-Some.ensures.shorter in
    let more = items_more _ had.most _ _ j (omega (arith, had.enough, less)) going read in
    record {
      read = (
        _,
        part_read _ _ _ _ js had _ (item j) (j ∷ []) less more (λ x. refl),
        rw c.in-Some.is (wrong_keep 1 js j c.in-Some.field-0 (rw c.in-Some.is at is)),
      );
      within = omega (arith, c.loop-alloc.invariant.within, less);
    }

-- no item is left
pub returns-in-None-fault-clause-outcome : goal.returns-in-None-fault-clause-outcome
returns-in-None-fault-clause-outcome g c =
    let (js, had, is) = c.loop-alloc.invariant.read in
    let end = items_end _ had.most _ _ had.enough c.loop-alloc-test.ensures in
    let (all, whole, same) = all_read _ _ _ _ js had no_items _ end refl in
    (all, found_as (λ entries are _. (all, refl, rw same are)) (rw c.in-None-fault.is at is), whole)

pub returns-in-Some-fault-clause-outcome : goal.returns-in-Some-fault-clause-outcome
returns-in-Some-fault-clause-outcome g c =
    let (js, had, is) = c.loop-alloc.invariant.read in
    let end = items_end _ had.most _ _ had.enough c.loop-alloc-test.ensures in
    let (all, whole, same) = all_read _ _ _ _ js had no_items _ end refl in
    (all, inr (all, refl, rw same (rw c.in-Some-fault.is at is)), whole)
