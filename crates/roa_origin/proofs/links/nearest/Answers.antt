-- Each step of the walk passes none that covers the prefix: what is passed covers the last VRP, and is too long.
use Rattle.roa_origin.proofs.Common.{arith, length, refl, ◌-◌, ◌<◌, ◌≤◌, CoversPrefix, IsFamilyPrefix, Vrp, prefix_len}
use Rattle.roa_origin.proofs.LinkSteps.{covers_through}
use Rattle.roa_origin.proofs.LinkWalks.{fewer, nowhere, prefix_of, read_at, too_long, walked}
use Rattle.roa_origin.proofs.links.nearest.Goals as goal

pub loop-at-init : goal.loop-at-init
loop-at-init c = (
  omega arith,
  (λ k d from before small covers. omega (arith, from, before)),
  (λ d more. record { family = refl; inside = λ n is. is }),
)

pub loop-at-smaller : goal.loop-at-smaller
loop-at-smaller c =
    let at = c.loop-at.at in
    let inside : at - 1 < length c.args.links.now =
    omega (arith, c.loop-at-test.true, c.loop-at.invariant.0, c.requires.within) in
    fewer c.args.vrps.now at _ c.loop-at-test.true (λ d. (c.requires.linked (at - 1) d _ inside).shorter d)

pub loop-at-preserved : goal.loop-at-preserved
loop-at-preserved c =
    let xs = c.args.vrps.now in
    let at = c.loop-at.at - 1 in
    let x = c.index-vrps-at in
    let y = c.index-vrps-from in
    let r = c.requires in
    let (far, none, above) = c.loop-at.invariant in
    let some : 0 < c.loop-at.at = c.loop-at-test.true in
    let inside : at < c.args.from = omega (arith, some, far) in
    let there : at < length xs = omega (arith, inside, r.within, r.as_many) in
    let last : c.args.from - 1 < length xs = omega (arith, inside, r.within, r.as_many) in
    let link = λ (d : Vrp). r.linked at d _ (omega (arith, inside, r.within)) in
    let read = read_at xs at nowhere x.result there x.is in
    let covers : CoversPrefix x.result.0.prefix y.result.0.prefix =
    rw (read, read_at xs (c.args.from - 1) nowhere y.result last y.is) at (above nowhere some) in
    let is_prefix : IsFamilyPrefix x.result.0.prefix = rw read at (prefix_of xs r.in_order at nowhere there) in
    let long : c.covering_limit-limit.result ≤ prefix_len x.result =
    grind (arith, c.is_shorter_than.ensures, c.if-not-is_shorter_than.true) in
    let free = too_long _ _ c.args.route.now.0 _ is_prefix covers c.covering_limit-limit.ensures long in
    let (back, passed) = walked xs c.args.from _ r.in_order r.up_to (omega (arith, r.within, r.as_many)) r.is_prefix
    at _ inside link x.result x.is free (λ k d over before small. none k d (omega (arith, over)) before small) in
    (back, passed, λ d more. covers_through _ _ _ ((link d).covers d more) (above d some))
