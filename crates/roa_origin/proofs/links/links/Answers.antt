-- Each VRP gets its link.
use Rattle.roa_origin.proofs.Common.{arith, length_push}
use Rattle.roa_origin.proofs.LinkWalks.{linked_more}
use Rattle.roa_origin.proofs.links.links.Goals as goal

pub next_link-link-requires-clause-linked : goal.next_link-link-requires-clause-linked
next_link-link-requires-clause-linked g c = rw c.as_slice.ensures.value c.loop-at.invariant.1

pub loop-at-preserved : goal.loop-at-preserved
loop-at-preserved g c =
    let (many, linked) = c.loop-at.invariant in
    let links = c.loop-at.links.items in
    let one = c.next_link-link in
    rw c.in_ok-push.ensures.items (
      omega (arith, many, length_push links one.result),
      linked_more c.args.vrps.now links c.loop-at.at one.result many linked one.ensures,
    )
