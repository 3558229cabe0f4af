use Rattle.respath_lines.proofs.Common.{[], ◌∷◌, length, lit<, map, map-append, HasStepFault, IsStepText, parts_of}
use Rattle.std.proofs.lemmas.Iterator.Splits.{YieldsList-from_str_split}
use Rattle.std.proofs.lemmas.Iterator.Consumers.{YieldsList-turn, YieldsList-end, YieldsList-so_far, YieldsList-at}
use Rattle.rpki_text.proofs.TextListLemmas.{HaveValues-append}
use Rattle.respath_lines.proofs.PathCommandLemmas.{first_refused}
use Rattle.respath_lines.proofs.steps.read_steps.Goals as goal

-- one more step
pub loop-part-preserved : goal.loop-part-preserved
loop-part-preserved g c =
    let step = IsStepText g.L.Lists.claim (g.L.Lists.writes c.args.lists.now) in
    rw (map-append, c.in_ok-push-in-Ok.ensures.items)
    (HaveValues-append step (map (λ p. p.now) c.loop-part.yielded) (c.in-Some.part.now ∷ []) _ _ c.loop-part.invariant
    (c.in-Ok.ensures, tt))

pub returns-in-Err : goal.returns-in-Err
returns-in-Err g c =
    let split = c.split-part-items.ensures in
    let items = YieldsList-from_str_split 124 c.args.text.now (lit< tt) split.text split.has_more split.pattern in
    let road = YieldsList-at c.into_iter-part-iterator.ensures.into_iter_gives items in
    let so_far = c.loop-part.yielded in
    let by = c.loop-part.yielded_by in
    let here = YieldsList-turn road so_far _ by _ _ c.in-Some.part c.in-Some.is c.next.ensures.steps in
    let before = rw (YieldsList-so_far road so_far _ by) at c.loop-part.invariant in
    let step = IsStepText g.L.Lists.claim (g.L.Lists.writes c.args.lists.now) in
    let fails = HasStepFault (g.L.Lists.fails c.args.lists.now) in
    first_refused step fails (parts_of c.args.text.now) (length so_far) c.in-Some.part.now c.loop-part.steps.items
    c.in-Err.fault here before c.in-Err.ensures

pub returns : goal.returns
returns g c =
    let split = c.split-part-items.ensures in
    let items = YieldsList-from_str_split 124 c.args.text.now (lit< tt) split.text split.has_more split.pattern in
    let road = YieldsList-at c.into_iter-part-iterator.ensures.into_iter_gives items in
    let all = YieldsList-end road c.loop-part.yielded _ c.loop-part.yielded_by _ _ c.in-None.is c.next.ensures.steps in
    rw (← all.0) c.loop-part.invariant
