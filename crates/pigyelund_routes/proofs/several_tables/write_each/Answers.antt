-- The validity and the reason of one route more are written.
use Rattle.pigyelund_routes.proofs.Common.{[], IsOrigin, List, Route, arith, get_or, length, subst, sym, take, ℕ, ◌<◌}
use Rattle.pigyelund_routes.proofs.Common.{◌≡◌}
use Rattle.std.proofs.lemmas.List.{get_or-take, get_or_default, length-take}
use Rattle.pigyelund_routes.specs.Origins.{validity_number}
use Rattle.pigyelund_routes.specs.Reasons.{HasReason, reason_number}
use Rattle.pigyelund_routes.specs.Routes.{IsRoute}
use Rattle.pigyelund_routes.specs.SeveralTables.{all_vrps}
use Rattle.pigyelund_routes.proofs.SeveralTableLemmas.{one_set, origin_of, reason_of}
use Rattle.pigyelund_routes.proofs.ValidityArrayLemmas.{by_index, each_at}
use Rattle.pigyelund_routes.proofs.several_tables.write_each.Goals as goal

-- what an index beyond the end would have
abbrev nothing : Route
nothing = record { address = []; asn = 0; family = 0; len = 0 }

pub found_for-requires-clause-route : goal.found_for-requires-clause-route
found_for-requires-clause-route c =
    let (prefixes, each) = c.requires.valid in
    each_at IsRoute c.args.routes.now prefixes each c.loop-at.at nothing c.loop-at-test.true

pub loop-at-preserved : goal.loop-at-preserved
loop-at-preserved c =
    let (octets, reasons) = c.loop-at.invariant in let (prefix, is_route, is) = c.found_for.ensures in
    let vrps = all_vrps c.args.tables.now in let routes = c.args.routes.now in let at = c.loop-at.at in
    let found = c.found_for.result in let octet = validity_number found.validity in
    let reason = reason_number found.validity found.has_covering_asn in
    let one : Route = get_or routes at nothing in
    let same : (r : Route) → one ≡ get_or routes at r = λ r. get_or_default routes at nothing r c.loop-at-test.true in (
      λ r k below small. subst (λ (ys : List ℕ). k < length ys → IsOrigin vrps (get_or routes k r) (get_or ys k 0))
          (sym c.put_found.ensures.octets)
          (one_set (IsOrigin vrps) routes at octet c.loop-at.octets octets
          (λ r. subst (λ (it : Route). IsOrigin vrps it octet) (same r)
          (origin_of vrps one prefix found is_route is)) r k below) small,
      λ r k below small. subst (λ (ys : List ℕ). k < length ys → HasReason vrps (get_or routes k r) (get_or ys k 0))
          (sym c.put_found.ensures.reasons)
          (one_set (HasReason vrps) routes at reason c.loop-at.reasons reasons
          (λ r. subst (λ (it : Route). HasReason vrps it reason) (same r)
          (reason_of vrps one prefix found is_route is)) r k below) small,
    )

pub returns-clause-octets : goal.returns-clause-octets
returns-clause-octets c =
    let (octets, reasons) = c.loop-at.invariant in
    let many : length c.loop-at.octets ≡ length c.args.routes.now =
    omega (arith, c.loop-at.auto.octets, c.requires.octets) in
    by_index (IsOrigin (all_vrps c.args.tables.now)) c.args.routes.now c.loop-at.octets many
    (λ k none small. octets none k (omega (arith, small, many, c.loop-at-test.false)) small)

pub returns-clause-reasons : goal.returns-clause-reasons
returns-clause-reasons c =
    let (octets, reasons) = c.loop-at.invariant in
    let vrps = all_vrps c.args.tables.now in let routes = c.args.routes.now in
    let few = length c.args.reasons.now in
    let many : length c.loop-at.reasons ≡ length (take few routes) =
    omega (arith, length-take few routes, c.loop-at.auto.reasons, c.requires.reasons) in
    by_index (HasReason vrps) (take few routes) c.loop-at.reasons many
    (λ k none small. let below : k < few = omega (arith, small, c.loop-at.auto.reasons) in
    subst (λ (r : Route). HasReason vrps r (get_or c.loop-at.reasons k 0)) (sym (get_or-take few routes k none below))
    (reasons none k (omega (arith, below, c.requires.reasons, c.loop-at-test.false)) small))
