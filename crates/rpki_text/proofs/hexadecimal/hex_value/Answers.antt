-- The table is held against the definition at each of the 256 bytes, by computing.
use Rattle.rpki_text.proofs.Common.{arith, refl}
use Rattle.rpki_text.specs.Digits.{hex_value}
use Rattle.rpki_text.specs.declared.hexadecimal.TheConstants.{HEX_VALUES}
use Rattle.rpki_text.proofs.LookupTables.{agrees_below, agrees_at}
use Rattle.rpki_text.proofs.hexadecimal.hex_value.Goals as goal

pub returns : goal.returns
unfolding agrees_below hex_value
returns c = rw c.from.ensures (agrees_at HEX_VALUES hex_value 256 refl c.args.byte (omega arith))
