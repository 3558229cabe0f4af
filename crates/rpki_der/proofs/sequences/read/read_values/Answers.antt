-- Leniently the readings are one.
use Rattle.rpki_der.proofs.Common.{false, left}
use Rattle.rpki_der.proofs.ValueProofs.{same_found}
use Rattle.rpki_der.proofs.SequenceModes.{values_tighten}
use Rattle.rpki_der.proofs.sequences.read.read_values.Goals as goal

pub returns-clause-exact : goal.returns-clause-exact
returns-clause-exact g c lenient =
    let reader = c.args.reader.now in
    let next = g.R.ReadNext.after reader in
    let by = g.R.ReadNext.reading_by reader false in
    let tight = values_tighten false next by (g.R.ReadNext.reading reader)
    (λ state. (g.met.R.ReadNext.is_modal reader state).tightens false)
    (g.R.ReadNext.first reader) (left c.args.content) in
    rw (← same_found _ _ tight, ← lenient) c.read_values_by_mode.ensures.by_mode
