-- What covers prefixes of two families is none.
use Rattle.roa_origin.proofs.CoveringLimits.{no_limit}
use Rattle.roa_origin.proofs.packed_vrp.PackedVrp.covering_limit.Goals as goal

pub returns-then-not-has_family_of : goal.returns-then-not-has_family_of
returns-then-not-has_family_of c =
    no_limit _ _ (λ e. let is_true = c.has_family_of.ensures.1 e in let f = c.if-not-has_family_of.true in cc)
