-- The first item and the loop write the joined texts.
use Rattle.rpki_text.proofs.Common.{codes, refl, ◌++◌}
use Rattle.std.proofs.Output.{has_written_append, has_written_of_eq}
use Rattle.rpki_text.proofs.PrintedListLemmas.{joined_by_loop, written_more}
use Rattle.rpki_text.proofs.list.fmt_elements.Goals as goal

pub loop-item-preserved : goal.loop-item-preserved
loop-item-preserved g c = λ show h plain.
    let before = c.loop-item.invariant show h plain in
    let comma = c.in_ok-write_str.ensures.writes before.plain refl in
    let writes = rw (h c.item-item.result) at c.in_ok-fmt_element-2.ensures.writes in
    let both = has_written_append _ _ _ _ _ _ comma (writes comma.plain refl) in
    let more =
    written_more (λ b. codes ", " ++ show b) _ c.loop-item.item-index c.item-item.result c.loop-item-test.true
    c.item-item.is in
    has_written_of_eq _ _ _ _ _ more (has_written_append _ _ _ _ _ _ before both)

pub returns-after-loop-item : goal.returns-after-loop-item
returns-after-loop-item g c = λ show h plain ok.
    let writes = rw (h c.first-item.result) at c.in_ok-fmt_element.ensures.writes in
    let first = writes plain refl in
    let rest = c.loop-item.invariant show h first.plain in
    let whole =
    joined_by_loop show c.args.items.now c.first-item.result c.loop-item.item-index c.in-len1-up.len_at_least
    c.first-item.is c.loop-item-test.false in
    has_written_of_eq _ _ _ _ _ whole (has_written_append _ _ _ _ _ _ first rest)
