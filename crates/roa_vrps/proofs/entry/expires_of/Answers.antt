use Rattle.roa_vrps.proofs.Common.{arith, value_view}
use Rattle.roa_vrps.proofs.entry.expires_of.Goals as goal

-- the only value is of another kind
pub returns-in-None : goal.returns-in-None
returns-in-None g c = (value_view c.in_ok-value.value.now, grind arith, λ h. grind arith)
