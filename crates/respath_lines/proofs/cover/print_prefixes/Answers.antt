use Rattle.respath_lines.proofs.Common.{subst, Drains}
use Rattle.respath_lines.proofs.cover.print_prefixes.Goals as goal

pub loop-prefix-init : goal.loop-prefix-init
loop-prefix-init g c =
    rw c.into_iter-prefix-iterator.ensures.into_iter_gives (c.requires.can, c.requires.ends, c.clear.ensures.bytes)

pub loop-prefix-preserved : goal.loop-prefix-preserved
loop-prefix-preserved g c =
    let on = c.in-Some.ensures.goes.on c.loop-prefix.invariant.1 in
    (on.0, on.1, c.in_ok-append.ensures c.loop-prefix.yielded c.loop-prefix.invariant.2)

pub returns : goal.returns
returns g c =
    let all =
    subst (λ it. Drains g.I.Iterator.next_gives it c.loop-prefix.yielded)
    c.into_iter-prefix-iterator.ensures.into_iter_gives
    (c.next.new.self, (c.loop-prefix.prefix-iterator, c.loop-prefix.yielded_by, c.in-None.ensures.steps)) in
    (c.loop-prefix.yielded, all, c.loop-prefix.invariant.2)
