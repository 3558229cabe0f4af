use Rattle.rpki_chain.proofs.SetLemmas.{IsBlockSet-from_chain}
use Rattle.rpki_chain.proofs.set.BlockSet.recall_invariant.Goals as goal

pub returns : goal.returns
returns g c = IsBlockSet-from_chain c.self.invariant c.self.view_is
