-- Each grammar has a reading.
use Rattle.rpki_as.proofs.Common.{IsAsBlock, IsBlockInAnyOrder, as_block_reading, skip_reading, as_block_at}
use Rattle.rpki_as.proofs.Common.{skip_block_at, one_front, one_said}
use Rattle.rpki_as.proofs.AsSetDerLemmas.{set_in_modes}
use Rattle.rpki_as.proofs.der.laws.one_value.Goals as goal

pub returns : goal.returns
returns c = record {
  block = one_front IsAsBlock as_block_at as_block_reading;
  skipped = one_front IsBlockInAnyOrder skip_block_at skip_reading;
  sequence = one_said set_in_modes;
}
