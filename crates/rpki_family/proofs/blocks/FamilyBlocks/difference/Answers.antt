use Rattle.rpki_family.proofs.Common.{arith}
use Rattle.rpki_ipres.proofs.WholeSets.{whole_difference}
use Rattle.rpki_family.proofs.blocks.FamilyBlocks.difference.Goals as goal

pub of-requires : goal.of-requires
of-requires g c = grind (arith, whole_difference c.self.inside.blocks c.other.inside.blocks c.in_ok-blocks.blocks)
