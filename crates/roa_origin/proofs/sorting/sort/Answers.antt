-- Sorted VRPs are in order.
use Rattle.roa_origin.proofs.Common.{arith, length, ◌≡◌}
use Rattle.std.proofs.lemmas.List.{take_at}
use Rattle.std.proofs.lemmas.List.Sorted.{length_permutation}
use Rattle.roa_origin.proofs.Insertions.{in_order}
use Rattle.roa_origin.proofs.sorting.sort.Goals as goal

pub returns-clause-in_order : goal.returns-clause-in_order
returns-clause-in_order g c =
    let xs = c.sort_slice.new.vrps in
    let is = c.sort_slice.ensures in
    let whole : length xs ≡ c.args.vrps.now.len =
    omega (arith, length_permutation _ _ is.permutation, c.as_mut_slice.ensures.len) in
    let moved = rw c.as_mut_slice.ensures.value at is.permutation in
    rw (take_at xs _ c.args.vrps.now.len whole) (in_order c.args.vrps.now.items xs moved c.requires is.ordered)
