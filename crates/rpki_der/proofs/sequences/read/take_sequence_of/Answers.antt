-- What the reading gives is the value of the grammar.
use Rattle.rpki_der.proofs.Common.{arith}
use Rattle.rpki_der.proofs.ValueProofs.{lenient_is}
use Rattle.rpki_der.proofs.SequenceCursors.{reads_or_memory_by}
use Rattle.rpki_der.proofs.SequenceModes.{sequence_modal}
use Rattle.rpki_der.proofs.SequenceReadings.{sequence_reading}
use Rattle.rpki_der.proofs.sequences.read.take_sequence_of.Goals as goal

pub returns-clause-exact : goal.returns-clause-exact
returns-clause-exact g c lenient =
    let law = g.met.R.ReadNext in
    let reader = c.args.reader.now in
    let modal = sequence_modal (g.R.ReadNext.after reader) _ _ _ _ (law.is_reading reader) (law.has_octets reader)
    (law.is_modal reader) (g.R.ReadNext.first reader) in
    grind (arith, lenient_is _ _ _ modal)

pub returns-clause-reads : goal.returns-clause-reads
returns-clause-reads g c lenient =
    let law = g.met.R.ReadNext in
    let reader = c.args.reader.now in
    let is = sequence_reading (g.R.ReadNext.after reader) _ _ (law.is_reading reader) (law.has_octets reader)
    (g.R.ReadNext.first reader) in
    reads_or_memory_by _ _ (λ values. values.items) c.args.cursor.now _ _ is c.args.cursor.now.bytes
    (returns-clause-exact g c lenient)
