-- The chains tell of their sets.
use Rattle.rpki_chain.proofs.RunLists.{common_runs, inside_set}
use Rattle.rpki_chain.proofs.SetLemmas.{IsBlockChain-part}
use Rattle.rpki_chain.proofs.set.BlockSet.trim.Goals as goal

pub invariant_of-result : goal.invariant_of-result
invariant_of-result g c =
    IsBlockChain-part c.self.invariant (rw c.in-Err-Refused.field-0-is at c.in-Err-Refused.ensures.refused)

pub returns-in-Ok-clause-ok : goal.returns-in-Ok-clause-ok
returns-in-Ok-clause-ok g c = inside_set _ _ c.self.view_is c.other.view_is _ c.in-Ok.ensures.ok

pub returns-in-Err-Refused-clause-ok : goal.returns-in-Err-Refused-clause-ok
returns-in-Err-Refused-clause-ok g c = inside_set _ _ c.self.view_is c.other.view_is _ c.in-Err-Refused.ensures.ok

pub returns-in-Err-Memory-clause-ok : goal.returns-in-Err-Memory-clause-ok
returns-in-Err-Memory-clause-ok g c = inside_set _ _ c.self.view_is c.other.view_is _ c.in-Err-Memory.ensures.ok

pub returns-in-Err-Refused-clause-refused : goal.returns-in-Err-Refused-clause-refused
returns-in-Err-Refused-clause-refused g c =
    common_runs _ _ c.self.view_is c.other.view_is (rw c.in-Err-Refused.field-0-is at c.in-Err-Refused.ensures.refused)
