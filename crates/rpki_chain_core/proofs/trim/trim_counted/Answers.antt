-- What is refused is what the chains, which are still the same, have in common.
use Rattle.rpki_chain_core.proofs.OverhangWalk.{overhang-not_inside}
use Rattle.rpki_chain_core.proofs.trim.trim_counted.Goals as goal

pub returns-in-Ok-clause-ok : goal.returns-in-Ok-clause-ok
returns-in-Ok-clause-ok g c =
    let leaves = overhang-not_inside _ g.T.Block.form _ _ _ _ _ _ c.in-Some.ensures.value in
    (λ e. absurd cc, λ all. absurd (leaves all))

pub returns-in-Err-clause-ok : goal.returns-in-Err-clause-ok
returns-in-Err-clause-ok g c =
    let leaves = overhang-not_inside _ g.T.Block.form _ _ _ _ _ _ c.in-Some.ensures.value in
    (λ e. absurd cc, λ all. absurd (leaves all))

pub returns-in-Ok-clause-refused : goal.returns-in-Ok-clause-refused
returns-in-Ok-clause-refused g c =
    simp (c.first_overhang.ensures.own_kept, c.first_overhang.ensures.other_kept) at c.in-Ok.ensures.common
