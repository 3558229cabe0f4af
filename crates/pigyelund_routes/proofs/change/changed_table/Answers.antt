-- Both lists are read, and their changes are those of the table.
use Rattle.pigyelund_routes.proofs.Common.{subst, sym, ◌∙◌}
use Rattle.roa_origin.specs.Updates.{IsUpdated}
use Rattle.pigyelund_routes.specs.declared.change.ChangeTableError.{ChangeTableError}
use Rattle.pigyelund_routes.proofs.RefusalLemmas.{value_kept}
use Rattle.pigyelund_routes.proofs.change.changed_table.Goals as goal

pub returns-in-Err-Refused : goal.returns-in-Err-Refused
returns-in-Err-Refused c =
    let announced = value_kept ChangeTableError _ _ _ _ c.vrps_of.ensures c.in_ok-announced.ensures in
    let withdrawn = value_kept ChangeTableError _ _ _ _ c.vrps_of-2.ensures c.in_ok-withdrawn.ensures in
    let written = rw c.in-Err-Refused.field-0-is at c.in-Err-Refused.ensures.faults in
    rw c.in-Err-Refused.fault-is (
      (c.in_ok-announced.announced.items, c.in_ok-withdrawn.withdrawn.items),
      record { announced_are = announced; withdrawn_are = withdrawn },
      rw c.as_slice.ensures.value at (rw c.as_slice-2.ensures.value at written),
    )

pub returns-in-Ok-new : goal.returns-in-Ok-new
returns-in-Ok-new c =
    let announced = value_kept ChangeTableError _ _ _ _ c.vrps_of.ensures c.in_ok-announced.ensures in
    let withdrawn = value_kept ChangeTableError _ _ _ _ c.vrps_of-2.ensures c.in_ok-withdrawn.ensures in
    let fresh = rw c.as_slice.ensures.value at (rw c.as_slice-2.ensures.value at c.in-Ok.ensures.faults) in
    let next = rw c.as_slice.ensures.value at (rw c.as_slice-2.ensures.value at c.in-Ok.ensures.next) in (
      (c.in_ok-announced.announced.items, c.in_ok-withdrawn.withdrawn.items),
      record { announced_are = announced; withdrawn_are = withdrawn },
      fresh,
      subst (IsUpdated c.args.table.now c.in_ok-announced.announced.items c.in_ok-withdrawn.withdrawn.items)
          (sym (c.of.ensures ∙ c.in-Ok-new.ensures.ok)) next,
    )
