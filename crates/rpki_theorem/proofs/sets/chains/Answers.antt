-- Both sets are the runs of their blocks, and blocks have one list of runs.
use Rattle.rpki_theorem.proofs.NumberLemmas.{same_members}
use Rattle.rpki_theorem.proofs.sets.chains.Goals as goal

pub returns-clause-runs : goal.returns-clause-runs
returns-clause-runs g c = (c.in_ok-set.ensures, c.in_ok-other.ensures)

pub returns-clause-one : goal.returns-clause-one
returns-clause-one g c runs h =
    c.laws_of_runs.ensures.one_list c.args.blocks.now c.in_ok-set.set runs c.in_ok-set.ensures h

pub returns-clause-equal : goal.returns-clause-equal
returns-clause-equal g c =
    let same = same_members _ _ c.in_ok-set.set c.in_ok-other.other c.in_ok-set.ensures c.in_ok-other.ensures in
    let decided = c.eq-equal.ensures.numbers in
    (λ t. same.0 (decided.0 t), λ all. decided.1 (same.1 all))
