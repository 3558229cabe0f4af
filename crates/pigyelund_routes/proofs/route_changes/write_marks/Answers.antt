-- What a piece adds to the marks so far.
use Rattle.pigyelund_routes.proofs.Common.{List, arith, length, subst, sym, ◌+◌, ◌≡◌}
use Rattle.std.proofs.Common.{◌≤◌}
use Rattle.roa_origin.specs.Lookups.{RouteLookup}
use Rattle.pigyelund_routes.specs.Lookups.{AreBegun}
use Rattle.pigyelund_routes.specs.RouteChanges.{IsRouteChange}
use Rattle.pigyelund_routes.specs.declared.interleaved.TheConstants.{BESIDE}
use Rattle.pigyelund_routes.proofs.RouteChangeLemmas.{marks_written}
use Rattle.pigyelund_routes.proofs.ValidityArrayLemmas.{by_index}
use Rattle.pigyelund_routes.proofs.route_changes.write_marks.Goals as goal

pub loop-at-preserved : goal.loop-at-preserved
loop-at-preserved c =
    let (within, octets) = c.loop-at.invariant in
    let begun : AreBegun c.args.old.now c.args.routes.now c.loop-at.at BESIDE c.advance.new.lookups =
    subst (λ (ls : List RouteLookup). AreBegun c.args.old.now c.args.routes.now c.loop-at.at BESIDE ls)
    (sym c.advance.ensures) c.begin-befores.ensures in
    let begun_next : AreBegun c.args.next.now c.args.routes.now c.loop-at.at BESIDE c.advance-in-loop-at.new.lookups =
    subst (λ (ls : List RouteLookup). AreBegun c.args.next.now c.args.routes.now c.loop-at.at BESIDE ls)
    (sym c.advance-in-loop-at.ensures) c.begin-afters.ensures in
    let few : c.min-count.result ≤ BESIDE = omega (arith, c.min-count.ensures) in
    let left : c.loop-at.at + c.min-count.result ≤ length c.args.routes.now =
    omega (arith, c.min-count.ensures, within) in (
      left,
      λ r k below small. marks_written c.args.old.now c.args.next.now c.args.routes.now c.loop-at.at c.min-count.result
          c.advance.new.lookups c.advance-in-loop-at.new.lookups begun begun_next few left c.loop-at.octets
          c.end_marks.new.octets c.end_marks.ensures octets r k below (omega (arith, small, c.end_marks.auto.octets)),
    )

pub returns : goal.returns
returns c =
    let (within, octets) = c.loop-at.invariant in
    let same : length c.loop-at.octets ≡ length c.args.routes.now =
    omega (arith, c.loop-at.auto.octets, c.requires.octets) in
    by_index (IsRouteChange c.args.old.now c.args.next.now) c.args.routes.now c.loop-at.octets same
    (λ k none small. octets none k (omega (arith, small, same, c.loop-at-test.false)) small)
