use Rattle.rpki_family.proofs.blocks.FamilyBlocks.contains.Goals as goal

pub returns : goal.returns
returns g c = rw (← c.self.view_is, ← c.other.view_is) c.contains.ensures
