-- The bytes so far are put.
use Rattle.rpki_addr.proofs.Common.{take, ◌++◌, ◌+◌, ◌≡◌}
use Rattle.rpki_addr.proofs.addr.print.put_all.Given as goal

abbrev pub invariant-loop-byte : goal.invariant-loop-byte
invariant-loop-byte l = record {
  text : take l.end l.out ≡ take l.at l.fn.out ++ take l.byte-index l.bytes;
  place : l.end ≡ l.at + l.byte-index;
}
