-- What a claim of a family leaves of a set of the family is of the family, and so is its excess.
use Rattle.rpki_family.proofs.Common.{arith}
use Rattle.rpki_ipres.proofs.WholeClaims.{whole_excess, whole_issued}
use Rattle.rpki_family.proofs.blocks.FamilyBlocks.verify_issued.Goals as goal

pub of-requires : goal.of-requires
of-requires g c = grind (arith, whole_issued c.self.inside.blocks c.in-Ok.set c.args.resources.now c.args.mode)

pub into_family-requires : goal.into_family-requires
into_family-requires g c =
    grind (arith, whole_excess c.self.inside.blocks c.in-Err-Refused.fault c.args.resources.now c.args.mode)
