-- Each turn passes the VRPs of one prefix, and the link tells those that are left.
use Rattle.roa_origin.proofs.Common.{arith, length, ◌-◌, ◌<◌, Matches}
use Rattle.roa_origin.proofs.LinkSteps.{IsPassed, fewer_left, first_before, held_in_all, is_invalid, is_valid}
use Rattle.roa_origin.proofs.LinkSteps.{left_begun, left_group, left_on, left_some, passed_held, passed_unheld}
use Rattle.roa_origin.proofs.LinkSteps.{walk_back}
use Rattle.roa_origin.proofs.LinkWalks.{read_link}
use Rattle.roa_origin.proofs.table.validity_by.Goals as goal
use Rattle.roa_origin.proofs.table.validity_by.Goals.{in-Some+else-allows, in_default}

pub loop-vrp-init : goal.loop-vrp-init
loop-vrp-init c = left_begun c.args.route.now.1 c.requires.nearest c.requires.some c.requires.link

pub between-group-requires-clause-from : goal.between-group-requires-clause-from
between-group-requires-clause-from c =
    let left = c.loop-vrp.invariant in
    omega (arith, first_before left.walk left.some left.link)

pub last_of_asn-requires-clause-group : goal.last_of_asn-requires-clause-group
last_of_asn-requires-clause-group c = rw c.between-group.ensures (left_group c.loop-vrp.invariant)

pub last_of_asn-requires-clause-some : goal.last_of_asn-requires-clause-some
last_of_asn-requires-clause-some c = rw c.between-group.ensures (left_some c.loop-vrp.invariant)

pub returns-then-allows-clause-validity : goal.returns-then-allows-clause-validity
returns-then-allows-clause-validity c =
    let holder = rw c.between-group.ensures at c.in-Some.ensures.some in
    is_valid c.loop-vrp.invariant (holder.allows.0 (c.allows.ensures.0 c.if-allows.true))

pub returns-then-at-eq0 : goal.returns-then-at-eq0
returns-then-at-eq0 c =
    let left = c.loop-vrp.invariant in
    let passed : IsPassed c.args.route.now.0 c.args.route.now.1 c.args.vrps.now c.loop-vrp.link.back
    c.match-last_of_asn.has_covering_asn = elim c.match-last_of_asn.branch [
      | in-Some+else-allows w ↦ (
          let holder = rw c.between-group.ensures at w.in-Some.ensures.some in
          let free : ¬ Matches c.args.route.now.0 c.args.route.now.1 w.in-Some.vrp.now = λ m.
          let is_true = w.allows.ensures.1 m in
          let f = w.if-allows.false in
          cc in
          rw w.has_covering_asn-is (passed_held left holder free))
      | in_default w ↦
          rw w.has_covering_asn-is (passed_unheld left (rw c.between-group.ensures at w.in_default.ensures.none))
    ] in
    let all = rw c.if-at-eq0.true at passed in
    record { validity = is_invalid left all; asn = held_in_all _ _ _ _ all }

pub bounds-links-at : goal.bounds-links-at
bounds-links-at c =
    let left = c.loop-vrp.invariant in
    let back = walk_back left.walk left.some left.link in
    let more = c.if-at-eq0.false in
    grind (arith, back.within, back.table.as_many, more)

pub loop-vrp-smaller : goal.loop-vrp-smaller
loop-vrp-smaller c = (let left = c.loop-vrp.invariant in fewer_left left.walk left.some left.link)

pub loop-vrp-preserved : goal.loop-vrp-preserved
loop-vrp-preserved c =
    let left = c.loop-vrp.invariant in
    let passed : IsPassed c.args.route.now.0 c.args.route.now.1 c.args.vrps.now c.loop-vrp.link.back
    c.match-last_of_asn.has_covering_asn = elim c.match-last_of_asn.branch [
      | in-Some+else-allows w ↦ (
          let holder = rw c.between-group.ensures at w.in-Some.ensures.some in
          let free : ¬ Matches c.args.route.now.0 c.args.route.now.1 w.in-Some.vrp.now = λ m.
          let is_true = w.allows.ensures.1 m in
          let f = w.if-allows.false in
          cc in
          rw w.has_covering_asn-is (passed_held left holder free))
      | in_default w ↦
          rw w.has_covering_asn-is (passed_unheld left (rw c.between-group.ensures at w.in_default.ensures.none))
    ] in
    let back = walk_back left.walk left.some left.link in
    let other = c.if-at-eq0.false in
    let more : 0 < c.loop-vrp.link.back = omega (arith, other) in
    let there : c.loop-vrp.link.back - 1 < length c.args.links.now =
    omega (arith, more, back.within, back.table.as_many) in
    left_on left passed more (read_link c.args.links.now (c.loop-vrp.link.back - 1) there)
