-- What the reading gives is what stands there, and the claims that it stands for.
use Rattle.rpki_der.proofs.Common.{arith, false, left, Refines, IsFamilies, SaysByFamily}
use Rattle.rpki_der.proofs.ValueProofs.{same_found}
use Rattle.rpki_der.proofs.SequenceCursors.{reads_said_by}
use Rattle.rpki_der.proofs.FamiliesGathering.{families_reading}
use Rattle.rpki_der.proofs.FamiliesModes.{families_tighten}
use Rattle.rpki_der.proofs.SequenceModes.{reads_same}
use Rattle.rpki_der.proofs.FamiliesSaid.{stands_for, stood_for}
use Rattle.rpki_der.proofs.sequences.families.take_families.Goals as goal

pub returns-clause-exact : goal.returns-clause-exact
returns-clause-exact g c lenient =
    let reader = c.args.reader.now in
    let by = g.R.ReadClaim.reading_by reader false in
    let tight = families_tighten false by (g.R.ReadClaim.reading reader)
    (λ family. (g.met.R.ReadClaim.is_modal reader family).tightens false) (left c.args.cursor.now) in
    grind (arith, same_found _ _ tight)

pub returns-clause-reads : goal.returns-clause-reads
returns-clause-reads g c lenient =
    let reader = c.args.reader.now in
    let G = g.R.ReadClaim.grammar reader in
    let C = g.R.ReadClaim.says reader in
    let is = families_reading G _ (g.met.R.ReadClaim.is_reading reader) in
    let exact = returns-clause-exact g c lenient in
    let reads = reads_said_by _ (SaysByFamily C) _ c.args.cursor.now _ _ is c.args.cursor.now.bytes exact in
    reads_same _ (IsFamilies (λ family. Refines (G family) C)) (λ x. x) _ _ _ (stands_for G C)
    (λ bytes fs rest at. stood_for G C bytes fs) reads
