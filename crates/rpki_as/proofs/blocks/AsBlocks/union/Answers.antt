use Rattle.rpki_as.proofs.blocks.AsBlocks.union.Goals as goal

pub returns : goal.returns
returns g c = rw (c.from_set.ensures, ← c.self.view_is, ← c.other.view_is) c.in_ok-set.ensures
