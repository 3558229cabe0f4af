-- Each block completes those so far, and the last ends the list.
use Rattle.std.proofs.lemmas.Bool.Decides.{not_from_Decides}
use Rattle.rpki_as_block.proofs.Common.{sym, ◌∙◌}
use Rattle.rpki_as_block.proofs.AsBlockListLemmas.{all_read, first_block, goes_no_further, one_more}
use Rattle.rpki_as_block.proofs.list.usual_blocks.Goals as goal

pub returns-then-is_end : goal.returns-then-is_end
returns-then-is_end g c =
    rw c.in_ok-push.ensures.items
    (all_read _ _ _ _ _ c.after_space-first.ensures c.in-Some.ensures.found _ c.loop-block.invariant
    (c.is_end.ensures.0 c.if-is_end.true))

pub loop-block-preserved : goal.loop-block-preserved
loop-block-preserved g c =
    let not_end = not_from_Decides c.is_end.result c.is_end.ensures c.if-is_end.false in
    rw c.in_ok-push.ensures.items
    (one_more _ _ _ _ _ c.after_space-first.ensures c.in-Some.ensures.found c.in-Some.ensures.each _
    c.loop-block.invariant not_end c.if-text-end-ne44.false)

pub returns-in_default : goal.returns-in_default
returns-in_default g c blocks h =
    let (rest, left) = c.loop-block.invariant.usual blocks h in
    let (b, end, more, there, on) = first_block _ _ _ rest c.after_space-first.ensures left in
    let none = sym c.in_default.is ∙ c.block_at.ensures.each b end there in
    absurd cc

pub returns-then-text-end-ne44 : goal.returns-then-text-end-ne44
returns-then-text-end-ne44 g c blocks h =
    let (rest, left) = c.loop-block.invariant.usual blocks h in
    let not_end = not_from_Decides c.is_end.result c.is_end.ensures c.if-is_end.false in
    goes_no_further _ _ _ _ _ rest c.after_space-first.ensures c.in-Some.ensures.each not_end c.if-text-end-ne44.true
    left
