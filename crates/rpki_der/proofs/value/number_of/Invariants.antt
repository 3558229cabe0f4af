use Rattle.rpki_der.proofs.Common.{take, ◌*◌, ◌<◌, ◌^◌, ◌≡◌, big_endian}
use Rattle.rpki_der.proofs.value.number_of.Given as goal

abbrev pub invariant-loop-digit : goal.invariant-loop-digit
invariant-loop-digit l = record {
  value : l.number ≡ big_endian (take l.digit-index l.digits);
  below : l.number < 2 ^ (8 * l.digit-index);
}
