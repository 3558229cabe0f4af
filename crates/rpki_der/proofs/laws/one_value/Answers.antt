-- Each grammar has a reading.
use Rattle.rpki_der.proofs.Common.{IsBitString, IsNull, IsOctetString, IsSequence, IsTlv, IsU32, bit_string_at, null_at}
use Rattle.rpki_der.proofs.Common.{tagged_at, u32_at, value_at}
use Rattle.rpki_der.proofs.ValueReadings.{one_front, value_reading, tagged_reading, u32_reading, bit_string_reading}
use Rattle.rpki_der.proofs.ValueReadings.{null_reading}
use Rattle.rpki_der.proofs.laws.one_value.Goals as goal

pub returns : goal.returns
returns c = record {
  value = one_front IsTlv value_at value_reading;
  number = one_front IsU32 u32_at u32_reading;
  bit_string = one_front IsBitString bit_string_at bit_string_reading;
  octet_string = one_front IsOctetString (tagged_at 4) (tagged_reading 4);
  null = one_front IsNull null_at null_reading;
  sequence = one_front IsSequence (tagged_at 48) (tagged_reading 48);
}
