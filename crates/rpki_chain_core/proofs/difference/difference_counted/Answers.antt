-- Where no block leaves the other chain nothing is left, and else what a walk finds from there on.
use Rattle.rpki_chain_core.proofs.Chains.{IsChainOf-nil}
use Rattle.rpki_chain_core.proofs.difference.difference_counted.Goals as goal

pub returns-in-None-clause-difference : goal.returns-in-None-clause-difference
returns-in-None-clause-difference g c =
    rw c.empty.ensures
    (IsChainOf-nil g.T.Block.bounds g.T.Block.form _ (λ n (own, not). not (c.in-None.ensures.value n own)))

pub returns-in-Some-clause-difference : goal.returns-in-Some-clause-difference
returns-in-Some-clause-difference g c =
    rw (← c.first_overhang.ensures.own_kept, ← c.first_overhang.ensures.other_kept) c.difference_from.ensures.difference
