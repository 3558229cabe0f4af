-- A VRP behind one of its prefix has its link, and the first of a prefix one of its own.
use Rattle.roa_origin.proofs.Common.{arith, refl, ◌-◌, ◌<◌, get_or_default, Link}
use Rattle.roa_origin.proofs.LinkWalks.{link_again, link_new}
use Rattle.roa_origin.proofs.links.next_link.Goals as goal

pub returns-then-has_prefix_of : goal.returns-then-has_prefix_of
returns-then-has_prefix_of c =
    let at = c.args.at in
    let some : 0 < at = (let not = c.if-at-eq0.false in omega (arith, not)) in
    let x = c.index-vrps-at in
    let y = c.index-vrps-at-2 in
    link_again c.args.vrps.now at x.result y.result _ c.requires.within some x.is y.is
    (c.has_prefix_of.ensures.0 c.if-has_prefix_of.true) (λ d. c.requires.linked (at - 1) d _ (omega (arith, some)))

pub nearest-back-requires-clause-up_to : goal.nearest-back-requires-clause-up_to
nearest-back-requires-clause-up_to c k d small =
    let x = c.index-vrps-at in
    let here = get_or_default c.args.vrps.now c.args.at d x.result c.requires.within in
    grind (arith, here, x.is, c.route_key.ensures.route, c.requires.in_order.ordered k c.args.at d)

pub returns : goal.returns
returns c =
    let at = c.args.at in
    let some : 0 < at = (let not = c.if-at-eq0.false in omega (arith, not)) in
    let x = c.index-vrps-at in
    let y = c.index-vrps-at-2 in
    let link : Link = record { first = at; back = c.nearest-back.result } in
    let near = rw c.route_key.ensures.route at c.nearest-back.ensures in
    link_new c.args.vrps.now at x.result y.result link c.requires.within some x.is y.is c.requires.in_order refl
    near.back (λ same. let is_true = c.has_prefix_of.ensures.1 same in let f = c.if-has_prefix_of.false in cc)
    near.none near.found
