-- What a claim of a family doesn't leave of a set of the family is of the family.
use Rattle.rpki_family.proofs.Common.{arith}
use Rattle.rpki_family.proofs.FamilyLemmas.{uncovered_in}
use Rattle.rpki_family.proofs.blocks.FamilyBlocks.verify_covered.Goals as goal

pub into_family-requires : goal.into_family-requires
into_family-requires g c =
    grind (arith, uncovered_in g.F.Family.FAMILY c.args.self.now c.in-Err-Refused.fault c.args.issuer.now)
