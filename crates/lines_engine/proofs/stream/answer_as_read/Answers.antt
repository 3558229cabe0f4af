use Rattle.lines_engine.proofs.Common.{Err, Ok, [], ap, arith, common_steps, length, refl}
use Rattle.lines_engine.proofs.Common.{Memory, take, ◌<◌, ◌∙◌}
use Rattle.std.proofs.lemmas.Result.{err_from_is_err_and}
use Rattle.lines_engine.proofs.GroupLemmas.{front_taken}
use Rattle.lines_engine.proofs.RunLemmas.{run_failed, run_flushed}
use Rattle.lines_engine.proofs.StreamLemmas.{but_are, last_then, left_are}
use Rattle.lines_engine.proofs.stream.answer_as_read.Goals as goal

-- the line without an end was not answered
pub returns-in_err-answer_lines : goal.returns-in_err-answer_lines
returns-in_err-answer_lines g c =
    let p = err_from_is_err_and c.from_residual-in_err-answer_lines.result
    c.from_residual-in_err-answer_lines.ensures.1 in
    run_failed (grind (arith, common_steps)) c.in_err-answer_lines.field-0.0 _ (p.1 ∙ ap Err p.2)
    (grind (arith, common_steps))
    (last_then _ _ _ _ _ _ c.loop-count.part.items (Err c.in_err-answer_lines.field-0.0)
    c.loop-count.invariant.answered (grind (arith, common_steps))
    (rw c.deref.ensures.value at c.in_err-answer_lines.ensures.answered))

-- all was answered, and maybe the flush failed
pub returns-then-count-eq0 : goal.returns-then-count-eq0
returns-then-count-eq0 g c =
    run_flushed (grind (arith, common_steps)) c.answer_lines.new.writer c.flush_all.result
    (grind (arith, common_steps)) (grind (arith, common_steps))
    (last_then _ _ _ _ _ _ c.loop-count.part.items (Ok tt) c.loop-count.invariant.answered (grind (arith, common_steps))
    (rw c.deref.ensures.value at c.in_ok-answer_lines.ensures.answered))
    c.flush_all.ensures.unmarked c.flush_all.ensures.flushed c.flush_all.ensures.write c.flush_all.ensures.kept

-- the input has too many bytes
pub returns-in-None : goal.returns-in-None
returns-in-None g c =
    let some : 0 < length (take c.in-Ok.count c.read.new.piece) = grind (arith, common_steps) in
    run_failed (grind (arith, common_steps)) Memory (Err Memory) refl (grind (arith, common_steps))
    (but_are _ _ _ _ _ _ c.loop-count.part.items _ c.loop-count.invariant.answered c.in-Ok.ensures.bytes.0
    (g.W.Sink.written c.loop-count.writer) [] (Err Memory)
    (λ more. left_are _ _ c.loop-count.part.items _ more [] (Err Memory) refl some))

pub returns-in_err-answer_piece : goal.returns-in_err-answer_piece
returns-in_err-answer_piece g c =
    let p = err_from_is_err_and c.from_residual-in_err-answer_piece.result
    c.from_residual-in_err-answer_piece.ensures.1 in
    let again = front_taken c.deref-in-loop-count.result.now c.read.new.piece _ _ c.deref-in-loop-count.ensures.value
    (c.read.auto.piece ∙ c.deref_mut.ensures.len) in
    run_failed (grind (arith, common_steps)) c.in_err-answer_piece.field-0.0 _ (p.1 ∙ ap Err p.2)
    (grind (arith, common_steps))
    (but_are _ _ _ _ _ _ c.loop-count.part.items _ c.loop-count.invariant.answered c.in-Ok.ensures.bytes.0 _ []
    (Err c.in_err-answer_piece.field-0.0) (rw again at c.in_err-answer_piece.ensures.answered))
