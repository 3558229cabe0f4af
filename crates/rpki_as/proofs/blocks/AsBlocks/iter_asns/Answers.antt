use Rattle.rpki_as.proofs.AsCountLemmas.{numbers_listed}
use Rattle.rpki_as.proofs.blocks.AsBlocks.iter_asns.Goals as goal

pub returns : goal.returns
returns g c = rw (c.over.ensures, ← c.self.view_is) (numbers_listed _ _ c.iter.ensures.blocks c.iter.ensures.set)
