use Rattle.rpki_ipres.proofs.family.IpBlocksForFamilyDisplay.fmt.Goals as goal

pub returns-clause-writes : goal.returns-clause-writes
returns-clause-writes g c = rw (← c.self.view_is, ← c.as_slice.ensures.made) c.fmt_blocks.ensures
