-- What claims of a family leave of a set of the family is of the family, and so is the excess.
use Rattle.rpki_family.proofs.Common.{arith}
use Rattle.rpki_ipres.proofs.WholeClaims.{whole_refusal, whole_result}
use Rattle.rpki_family.proofs.blocks.FamilyBlocks.verify_path.Goals as goal

pub of-requires : goal.of-requires
of-requires g c = grind (arith, whole_result c.self.inside.blocks c.in-Ok.set c.args.steps.now)

pub into_family-requires : goal.into_family-requires
into_family-requires g c = grind (arith, whole_refusal c.self.inside.blocks c.args.steps.now c.in-Err-Refused.refusal)

pub returns-in-Err-Refused : goal.returns-in-Err-Refused
returns-in-Err-Refused g c =
    let ensured = rw c.in-Err-Refused.field-0-is at c.in-Err-Refused.ensures in
    rw (c.into_family.ensures, ← c.self.view_is) ensured
