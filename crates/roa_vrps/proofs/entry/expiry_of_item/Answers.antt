use Rattle.roa_vrps.proofs.Common.{refl}
use Rattle.roa_vrps.specs.declared.fault.ExpiresFault.TheVariants.{Number}
use Rattle.roa_vrps.proofs.entry.expiry_of_item.Goals as goal

-- the number is no time
pub returns-in-None : goal.returns-in-None
returns-in-None g c = (Number, (c.in-Ok.text.now, c.in-Ok.ensures, c.in-None.ensures), refl)
