use Rattle.example_calls.proofs.Common.{arith, IfOk-weaker}
use Rattle.rpki_chain.proofs.RunLists.{IsRunsOf-same}
use Rattle.example_calls.proofs.sets.union_of_three.Goals as goal

pub returns : goal.returns
returns g c =
    let both = c.in_ok-both.ensures in
    IfOk-weaker c.union-2.result _ _ (λ set. IsRunsOf-same set _ _ (λ n. grind (arith, both.members n)))
    c.union-2.ensures
