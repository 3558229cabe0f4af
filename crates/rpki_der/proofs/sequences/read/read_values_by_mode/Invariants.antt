-- What the loop over the values keeps.
use Rattle.rpki_der.proofs.Common.{length, ◌≡◌, each_from, is_strict, left}
use Rattle.rpki_der.proofs.ValueProofs.{SoFar}
use Rattle.rpki_der.proofs.sequences.read.read_values_by_mode.Given as goal

-- what was read, and what is left in the state after it, give the whole
abbrev pub invariant-loop-values : goal.invariant-loop-values
invariant-loop-values g l =
    let next = g.R.ReadNext.after l.reader in
    let reading = g.R.ReadNext.reading_by l.reader (is_strict l.fn.content) in
    record {
      mode : is_strict l.inside ≡ is_strict l.fn.content;
      so_far : SoFar next reading l.values.items l.state (left l.inside)
          (each_from next (length (left l.fn.content)) reading (g.R.ReadNext.first l.reader) (left l.fn.content));
    }

abbrev pub decreases-loop-values : goal.decreases-loop-values
decreases-loop-values g l = length (left l.inside)
