-- The comparison tells whether the claims are one.
use Rattle.rpki_ipres.proofs.Common.{claims_decide}
use Rattle.rpki_ipres.proofs.resources.IpResourcesPartialEq.eq.Goals as goal

pub returns-clause-same : goal.returns-clause-same
returns-clause-same g c =
    rw (c.eq.ensures, c.self.view_is, c.other.view_is) (claims_decide c.args.self.now c.args.other.now)
