-- Each part adds its value, is left out, or is the first fault.
use Rattle.rpki_text.proofs.Common.{arith, length, lit<, sym, ◌∙◌, eqb-false, map-append}
use Rattle.std.proofs.lemmas.Iterator.Splits.{YieldsList-from_str_split}
use Rattle.std.proofs.lemmas.Iterator.Consumers.{YieldsList-turn, YieldsList-end, YieldsList-so_far, YieldsList-at}
use Rattle.rpki_text.proofs.TextListLemmas.{fault_at, values_more, elements_are}
use Rattle.rpki_text.proofs.list.read_elements.Goals as goal

-- one more value
pub loop-part-preserved : goal.loop-part-preserved
loop-part-preserved g c = grind (arith, eqb-false, map-append, values_more)

pub returns-in-Err : goal.returns-in-Err
returns-in-Err g c =
    let split = c.split-part-items.ensures in
    let parts = YieldsList-from_str_split 44 c.args.text.now (lit< tt) split.text split.has_more split.pattern in
    let road = YieldsList-at c.into_iter-part-iterator.ensures.into_iter_gives parts in
    let turn = YieldsList-turn road c.loop-part.yielded _ c.loop-part.yielded_by in
    let here = turn _ _ c.in-Some.part c.in-Some.is c.next.ensures.steps in
    let sofar = YieldsList-so_far road c.loop-part.yielded _ c.loop-part.yielded_by in
    let some = eqb-false (length c.trimmed-element.result.now) 0 (sym c.is_empty.ensures ∙ c.if-is_empty.false) in
    let fault = rw c.trimmed-element.ensures at c.in-Err.ensures in
    let before = rw sofar at c.loop-part.invariant in
    fault_at (g.R.ReadElement.has c.args.reader.now) (g.R.ReadElement.fails c.args.reader.now) c.args.text.now
    (length c.loop-part.yielded) c.in-Some.part.now c.loop-part.values.items c.in-Err.fault here
    (rw c.trimmed-element.ensures at some) before fault

pub returns : goal.returns
returns g c =
    let split = c.split-part-items.ensures in
    let parts = YieldsList-from_str_split 44 c.args.text.now (lit< tt) split.text split.has_more split.pattern in
    let road = YieldsList-at c.into_iter-part-iterator.ensures.into_iter_gives parts in
    let all = YieldsList-end road c.loop-part.yielded _ c.loop-part.yielded_by _ _ c.in-None.is c.next.ensures.steps in
    rw (elements_are c.args.text.now, ← all.0) c.loop-part.invariant
