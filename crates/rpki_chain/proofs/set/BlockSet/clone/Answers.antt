use Rattle.rpki_chain.proofs.SetLemmas.{IsBlockSet-from_chain}
use Rattle.rpki_chain.proofs.set.BlockSet.clone.Goals as goal

pub returns-in_err-chain-clause-set : goal.returns-in_err-chain-clause-set
returns-in_err-chain-clause-set g c = IsBlockSet-from_chain c.self.invariant c.self.view_is

pub returns-clause-set : goal.returns-clause-set
returns-clause-set g c = IsBlockSet-from_chain c.self.invariant c.self.view_is
