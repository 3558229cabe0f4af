-- What the sorted blocks cover is what the blocks covered.
use Rattle.rpki_chain_core.proofs.build.join.Goals as goal

pub returns-clause-covers : goal.returns-clause-covers
returns-clause-covers g c n =
    let sorted = c.sort.ensures.covers n in
    let joined = c.join_ascending.ensures.covers n in
    (λ h. sorted.0 (joined.0 h), λ h. joined.1 (sorted.1 h))

pub returns-clause-kind : goal.returns-clause-kind
returns-clause-kind g c n covered = c.join_ascending.ensures.kind n ((c.sort.ensures.covers n).1 covered)
