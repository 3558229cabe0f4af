use Rattle.rpki_ipres.proofs.blocks.IpBlocks.union.Goals as goal

pub returns : goal.returns
returns g c = rw (← c.self.view_is, ← c.other.view_is) c.in_ok-set.ensures
