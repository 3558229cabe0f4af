-- Each turn reads the next value, or is at the end, or meets the first fault.
use Rattle.rpki_der.proofs.Common.{Bool, List, Ok, Some, length, ℕ, ◌<◌, ◌∙◌, ◌≡◌, err_from_is_err_and, IsBytes}
use Rattle.rpki_der.proofs.Common.{IsModal, IsReading, optional, values_from, Grammar, Reading}
use Rattle.rpki_der.proofs.ValueProofs.{HasOctets, loop_ends, loop_fails, loop_more, optional_err, optional_none}
use Rattle.rpki_der.proofs.ValueProofs.{optional_some, shorter, found_is}
use Rattle.rpki_der.proofs.sequences.read.read_values_by_mode.Goals as goal

-- behind a value that is taken fewer octets are left
fewer_left : {X : Type 0} (G S : Grammar X) (reading : Reading X) (by : Bool → Reading X) → IsReading G reading
    → HasOctets G → IsModal S reading by → (strict : Bool) (bytes : List ℕ) (x : X) (rest : List ℕ) → IsBytes bytes
    → optional (by strict) bytes ≡ Ok (Some x, rest) → length rest < length bytes
fewer_left G S reading by is has modal strict bytes x rest fits read =
    let some = (optional_some (by strict) bytes x rest read).1 in
    let found = found_is strict (by strict bytes) (reading bytes) (x, rest) (modal.tightens strict bytes) some in
    shorter G has bytes x rest (is.takes bytes x rest fits found)

pub loop-values-smaller : goal.loop-values-smaller
loop-values-smaller g c =
    let law = g.met.R.ReadNext in
    let reader = c.args.reader.now in
    let state = c.loop-values.state in
    let read = rw c.in-Some.is at c.in_ok-value.ensures.by_mode in
    fewer_left _ _ _ _ (law.is_reading reader state) (law.has_octets reader state) (law.is_modal reader state) _ _ _ _
    c.loop-values.inside.bytes read

pub loop-values-preserved : goal.loop-values-preserved
loop-values-preserved g c =
    let read = rw (c.loop-values.invariant.mode, c.in-Some.is) at c.in_ok-value.ensures.by_mode in
    let some = (optional_some _ _ _ _ read).1 in
    record {
      mode = c.in_ok-value.ensures.mode ∙ c.loop-values.invariant.mode;
      so_far = rw (c.in_ok-push.ensures.items, c.state_after-state.ensures)
          (loop_more _ _ _ _ _ _ _ _ c.loop-values.invariant.so_far some (loop-values-smaller g c));
    }

pub returns : goal.returns
unfolding values_from
returns g c =
    let read = rw (c.loop-values.invariant.mode, c.in_default.is) at c.in_ok-value.ensures.by_mode in
    record { by_mode = loop_ends _ _ _ _ _ _ c.loop-values.invariant.so_far (optional_none _ _ _ read).0 }

pub returns-in_err-value : goal.returns-in_err-value
unfolding values_from
returns-in_err-value g c =
    let failed = optional_err _ _ _ (rw c.loop-values.invariant.mode at c.in_err-value.ensures.by_mode.0) in
    let p = err_from_is_err_and c.from_residual.result c.from_residual.ensures.1 in
    record { by_mode = rw (p.1, p.2) (loop_fails _ _ _ _ _ _ _ c.loop-values.invariant.so_far failed.0 failed.1) }
