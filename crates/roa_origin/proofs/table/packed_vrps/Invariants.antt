-- The packed VRPs so far are those of the list gone through.
use Rattle.roa_origin.proofs.Common.{All, take, ◌≡◌, IsLawfulVrp}
use Rattle.roa_origin.proofs.table.packed_vrps.Given as goal

abbrev pub invariant-loop-vrp : goal.invariant-loop-vrp
invariant-loop-vrp g l = (l.packed.items ≡ take l.vrp-index l.vrps) × All IsLawfulVrp l.packed.items
