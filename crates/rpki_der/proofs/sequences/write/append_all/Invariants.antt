-- What the loop over the values keeps.
use Rattle.rpki_der.proofs.Common.{drop, length, take, vec_len, ◌++◌, ◌+◌, ◌≡◌, ◌≤◌, octets_of_all}
use Rattle.std.specs.Vec.{vec_capacity}
use Rattle.rpki_der.proofs.sequences.write.append_all.Given as goal

-- what is written so far, and that the capacity is enough for the rest
abbrev pub invariant-loop-value : goal.invariant-loop-value
invariant-loop-value g l = record {
  written : l.out.items ≡ l.fn.out.items ++ octets_of_all (λ x. g.V.Encode.octets x) (take l.value-index l.values);
  fits : vec_len l.out + length (octets_of_all (λ x. g.V.Encode.octets x) (drop l.value-index l.values))
      ≤ vec_capacity l.out;
  capacity : vec_capacity l.fn.out ≤ vec_capacity l.out;
}
