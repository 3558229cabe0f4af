-- The last VRP of a group has the lowest AS number, and the test parts the VRPs before it.
use Rattle.roa_origin.proofs.Common.{arith, length, rules, ◌-◌, ◌<◌, ◌≤◌, leb-false, leb-true, IsLastOf, slice_range}
use Rattle.roa_origin.proofs.PrefixGroups.{group_front, last_of, last_of_all, last_of_front, piece_length}
use Rattle.roa_origin.proofs.table.count_asn_from.Goals as goal

pub returns-then-has_asn_from-clause-last : goal.returns-then-has_asn_from-clause-last
returns-then-has_asn_from-clause-last c =
    let x = c.index-group-last in
    last_of_all c.args.route.now.0 c.args.group.now c.args.route.now.1 c.requires.group x.result c.requires.some x.is
    (leb-true _ _ (grind (arith, c.has_asn_from.ensures, c.if-has_asn_from.true)))

pub returns-clause-last : goal.returns-clause-last
returns-clause-last c =
    let xs = c.args.group.now in
    let asn = c.args.route.now.1 in
    let m = length xs - 1 in
    let x = c.index-group-last in
    let some : 0 < length xs = c.requires.some in
    let below : x.result.1 < asn = grind (arith, leb-false, c.has_asn_from.ensures, c.if-has_asn_from.false) in
    let within : m ≤ length xs = omega arith in
    let front = group_front xs m within c.args.route.now.0 c.requires.group in
    let bound : c.partition_point.result ≤ length (slice_range xs 0 m) =
    rw c.between.ensures at c.partition_point.ensures.bound in
    let parts = rw c.between.ensures at c.partition_point.ensures.partitioned in
    let last : IsLastOf asn (slice_range xs 0 m) c.partition_point.result =
    last_of c.args.route.now.0 (slice_range xs 0 m) asn front c.partition_point.result bound parts
    (λ a r q k. search rules) in
    last_of_front xs asn m c.partition_point.result x.result (omega (arith, some)) x.is below
    (omega (arith, bound, piece_length xs 0 m within)) last
