use Rattle.rpki_ipres.proofs.blocks.IpBlocks.intersection_assign.Goals as goal

pub returns-clause-ok : goal.returns-clause-ok
returns-clause-ok g c = rw (← c.self.view_is, ← c.other.view_is) c.intersection_assign.ensures.ok
