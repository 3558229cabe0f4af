-- Both tests say what a prefix is.
use Rattle.rpki_ip.proofs.RangeLemmas.{prefix_of_bits}
use Rattle.rpki_ip.proofs.range.AddressRange.prefix_len.Goals as goal

pub returns-then-min-host_bits-eq0-clause-some : goal.returns-then-min-host_bits-eq0-clause-some
returns-then-min-host_bits-eq0-clause-some c =
    let ones = rw (c.to_bits-min.ensures, c.to_bits.ensures) at c.if-host_bits-eq0.true in
    let clear = rw (c.to_bits-min.ensures, c.to_bits.ensures) at c.if-min-host_bits-eq0.true in
    rw (c.to_bits-min.ensures, c.to_bits.ensures, ← c.self.view_is)
    (prefix_of_bits (record { min = c.self.inside.min; max = c.self.inside.max }) c.self.invariant.ordered
    c.self.invariant.below ones clear)
