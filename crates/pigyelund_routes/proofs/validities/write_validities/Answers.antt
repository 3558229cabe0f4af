-- What a piece adds to the validities and reasons so far.
use Rattle.pigyelund_routes.proofs.Common.{List, arith, get_or, length, subst, sym, take, ◌+◌, ◌<◌, ◌≡◌, IsOrigin}
use Rattle.pigyelund_routes.proofs.Common.{Route}
use Rattle.std.proofs.Common.{◌≤◌}
use Rattle.std.proofs.lemmas.List.{get_or-take, length-take}
use Rattle.roa_origin.specs.Lookups.{RouteLookup}
use Rattle.pigyelund_routes.specs.Lookups.{AreBegun}
use Rattle.pigyelund_routes.specs.Reasons.{HasReason}
use Rattle.pigyelund_routes.specs.declared.interleaved.TheConstants.{BESIDE}
use Rattle.pigyelund_routes.proofs.InterleavedLemmas.{reasons_written, validities_written}
use Rattle.pigyelund_routes.proofs.ValidityArrayLemmas.{by_index}
use Rattle.pigyelund_routes.proofs.validities.write_validities.Goals as goal

pub loop-at-preserved : goal.loop-at-preserved
loop-at-preserved c =
    let (within, octets, reasons) = c.loop-at.invariant in
    let begun : AreBegun c.args.table.now c.args.routes.now c.loop-at.at BESIDE c.advance.new.lookups =
    subst (λ (ls : List RouteLookup). AreBegun c.args.table.now c.args.routes.now c.loop-at.at BESIDE ls)
    (sym c.advance.ensures) c.begin-lookups.ensures in
    let few : c.min-count.result ≤ BESIDE = omega (arith, c.min-count.ensures) in
    let left : c.loop-at.at + c.min-count.result ≤ length c.args.routes.now =
    omega (arith, c.min-count.ensures, within) in (
      left,
      λ r k below small. validities_written c.args.table.now c.args.routes.now c.loop-at.at c.min-count.result
          c.advance.new.lookups begun few left c.loop-at.octets c.end.new.octets c.end.ensures.octets octets r k below
          (omega (arith, small, c.end.auto.octets)),
      λ r k below small. reasons_written c.args.table.now c.args.routes.now c.loop-at.at c.min-count.result
          c.advance.new.lookups begun few left c.loop-at.reasons c.end.new.reasons c.end.ensures.reasons reasons r k
          below (omega (arith, small, c.end.auto.reasons)),
    )

pub returns-clause-octets : goal.returns-clause-octets
returns-clause-octets c =
    let (within, octets, reasons) = c.loop-at.invariant in
    let same : length c.loop-at.octets ≡ length c.args.routes.now =
    omega (arith, c.loop-at.auto.octets, c.requires.octets) in
    by_index (IsOrigin c.args.table.now) c.args.routes.now c.loop-at.octets same
    (λ k none small. octets none k (omega (arith, small, same, c.loop-at-test.false)) small)

pub returns-clause-reasons : goal.returns-clause-reasons
returns-clause-reasons c =
    let (within, octets, reasons) = c.loop-at.invariant in
    let routes = c.args.routes.now in
    let few = length c.args.reasons.now in
    let same : length c.loop-at.reasons ≡ length (take few routes) =
    omega (arith, length-take few routes, c.loop-at.auto.reasons, c.requires.reasons) in
    by_index (HasReason c.args.table.now) (take few routes) c.loop-at.reasons same
    (λ k none small. let below : k < few = omega (arith, small, c.loop-at.auto.reasons) in
    subst (λ (r : Route). HasReason c.args.table.now r (get_or c.loop-at.reasons k 0))
    (sym (get_or-take few routes k none below))
    (reasons none k (omega (arith, below, c.requires.reasons, c.loop-at-test.false)) small))
