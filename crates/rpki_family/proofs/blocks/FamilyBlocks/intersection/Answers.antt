use Rattle.rpki_family.proofs.Common.{arith}
use Rattle.rpki_ipres.proofs.WholeSets.{whole_intersection}
use Rattle.rpki_family.proofs.blocks.FamilyBlocks.intersection.Goals as goal

pub of-requires : goal.of-requires
of-requires g c = grind (arith, whole_intersection c.self.inside.blocks c.other.inside.blocks c.in_ok-blocks.blocks)
