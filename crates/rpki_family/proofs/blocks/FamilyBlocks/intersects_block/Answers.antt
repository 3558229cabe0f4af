use Rattle.rpki_family.proofs.blocks.FamilyBlocks.intersects_block.Goals as goal

pub returns : goal.returns
returns g c = rw (← c.self.view_is, ← c.to_block.ensures.value) c.intersects_block.ensures
