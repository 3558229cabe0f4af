-- The first bits that two addresses share are those before the first bit in which they differ.
use Rattle.roa_origin.proofs.Common.{arith, ◌≡◌, FamilyPrefix, is_v6, addr_of}
use Rattle.roa_origin.proofs.CoveringLimits.{limit_by_bits, zeros_of_v4}
use Rattle.roa_origin.proofs.NestedRoutes.{number_of}
use Rattle.roa_origin.proofs.packed_vrp.PackedVrp.shared_len.Goals as goal

pub overflow_sub-shared : goal.overflow_sub-shared
overflow_sub-shared c = grind (arith, zeros_of_v4)

pub returns-then-self-clause-limit : goal.returns-then-self-clause-limit
returns-then-self-clause-limit c =
    let e = c.self.inside in
    let f = c.route.inside in
    let p : FamilyPrefix = record { addr = addr_of e.is_v6 e.bits; len = e.len } in
    let q : FamilyPrefix = record { addr = addr_of f.is_v6 f.bits; len = f.len } in
    let family : is_v6 p.addr ≡ is_v6 q.addr = rw (← c.self.view_is, ← c.route.view_is) at c.requires in
    rw (← c.self.view_is, ← c.route.view_is)
    (limit_by_bits p q c.min.result c.self.invariant.0 c.route.invariant.0 family
    (grind (arith, c.min.ensures, number_of e.is_v6 e.bits, number_of f.is_v6 f.bits)))

pub returns-else-self-clause-limit : goal.returns-else-self-clause-limit
returns-else-self-clause-limit c =
    let e = c.self.inside in
    let f = c.route.inside in
    let p : FamilyPrefix = record { addr = addr_of e.is_v6 e.bits; len = e.len } in
    let q : FamilyPrefix = record { addr = addr_of f.is_v6 f.bits; len = f.len } in
    let family : is_v6 p.addr ≡ is_v6 q.addr = rw (← c.self.view_is, ← c.route.view_is) at c.requires in
    rw (← c.self.view_is, ← c.route.view_is)
    (limit_by_bits p q c.min-else-self.result c.self.invariant.0 c.route.invariant.0 family
    (grind (
      arith,
      c.min-else-self.ensures,
      number_of e.is_v6 e.bits,
      number_of f.is_v6 f.bits,
      zeros_of_v4 e.bits
          f.bits,
    )))
