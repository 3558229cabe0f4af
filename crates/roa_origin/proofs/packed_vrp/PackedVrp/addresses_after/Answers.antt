-- A mask of the open bits is the number of addresses less one.
use Rattle.roa_origin.proofs.Common.{ap, arith, ◌-◌, ◌^◌, ◌∙◌, ◌≡◌, width, prefix_len}
use Rattle.rpki_cover.proofs.BitMasks.{host_ones}
use Rattle.roa_origin.proofs.packed_vrp.PackedVrp.addresses_after.Goals as goal

pub returns-else-fixed : goal.returns-else-fixed
returns-else-fixed c =
    let fixed = c.fixed_bits-fixed.result in
    let is = c.fixed_bits-fixed.ensures in
    let left : 128 - fixed ≡ width c.args.self.now.0.prefix.addr - prefix_len c.args.self.now = omega (arith, is) in
    host_ones 128 fixed (omega (arith, is)) ∙ ap (λ k. 2 ^ k) left
