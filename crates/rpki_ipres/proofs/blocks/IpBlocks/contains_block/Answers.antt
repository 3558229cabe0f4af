use Rattle.rpki_ipres.proofs.blocks.IpBlocks.contains_block.Goals as goal

pub returns : goal.returns
returns g c = rw (← c.self.view_is) c.contains_block.ensures
