-- What the loop over the values keeps.
use Rattle.rpki_der.proofs.Common.{length, take, ◌≡◌, octets_of_all}
use Rattle.rpki_der.proofs.sequences.write.len_of_all.Given as goal

-- the length of the values so far
abbrev pub invariant-loop-value : goal.invariant-loop-value
invariant-loop-value g l = l.total ≡ length (octets_of_all (λ x. g.V.Encode.octets x) (take l.value-index l.values))
