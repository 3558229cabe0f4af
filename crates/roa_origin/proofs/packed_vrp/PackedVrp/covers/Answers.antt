-- The numbers tell whether the one prefix lies in the other.
use Rattle.roa_origin.proofs.Common.{arith, ◌+◌, ◌-◌, ◌^◌, ◌≡◌, le-leb, leb-true, FamilyPrefix, is_v6, width, addr_of}
use Rattle.roa_origin.proofs.NestedRoutes.{by_distance, number_of}
use Rattle.roa_origin.proofs.packed_vrp.PackedVrp.covers.Goals as goal

pub returns : goal.returns
returns c =
    let e = c.self.inside in
    let f = c.route.inside in
    let p : FamilyPrefix = record { addr = addr_of e.is_v6 e.bits; len = e.len } in
    let q : FamilyPrefix = record { addr = addr_of f.is_v6 f.bits; len = f.len } in
    let family : is_v6 p.addr ≡ is_v6 q.addr =
    rw (← c.self.view_is, ← c.route.view_is) at (c.has_family_of.ensures.0 c.if-not-has_family_of.false) in
    let behind = c.addresses_after in
    let reach : behind.result + 1 ≡ 2 ^ (width p.addr - p.len) = rw (← c.self.view_is) at behind.ensures in
    let both = by_distance p q behind.result c.self.invariant.0 c.route.invariant.0 family c.if-route-self.false in
    let numbers = number_of f.is_v6 f.bits in
    rw (← c.self.view_is, ← c.route.view_is)
    (grind (arith, both, reach, c.if-route-self-2.false, le-leb, leb-true, number_of e.is_v6 e.bits))
