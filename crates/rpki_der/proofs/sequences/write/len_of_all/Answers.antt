-- A part of the length is at most the whole.
use Rattle.rpki_der.proofs.Common.{arith}
use Rattle.std.proofs.lemmas.List.Folds.{length-flat_map-take}
use Rattle.rpki_der.proofs.sequences.write.len_of_all.Goals as goal

pub returns-in_err-total-clause-none : goal.returns-in_err-total-clause-none
returns-in_err-total-clause-none g c = grind (arith, length-flat_map-take)
