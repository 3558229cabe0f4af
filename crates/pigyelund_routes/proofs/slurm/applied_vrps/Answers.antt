-- The VRPs are read, and the file is applied to them or has a fault.
use Rattle.pigyelund_routes.specs.declared.slurm.ApplySlurmError.{ApplySlurmError}
use Rattle.pigyelund_routes.proofs.RefusalLemmas.{value_kept}
use Rattle.pigyelund_routes.proofs.slurm.applied_vrps.Goals as goal

pub returns-in-Err-Refused : goal.returns-in-Err-Refused
returns-in-Err-Refused c =
    let vrps = value_kept ApplySlurmError _ _ _ _ c.vrps_of.ensures c.in_ok-vrps.ensures in
    let written = rw c.in-Err-Refused.field-0-is at c.in-Err-Refused.ensures in
    rw c.in-Err-Refused.fault-is ((c.in_ok-vrps.vrps.items, vrps), written)

pub returns-in-Ok : goal.returns-in-Ok
returns-in-Ok c =
    let vrps = value_kept ApplySlurmError _ _ _ _ c.vrps_of.ensures c.in_ok-vrps.ensures in
    (c.in_ok-vrps.vrps.items, vrps, rw c.as_slice.ensures.value at c.in-Ok.ensures)
