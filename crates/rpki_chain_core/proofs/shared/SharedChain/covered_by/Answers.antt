-- A block that leaves the other chain shows that not all lie in it, and with it what is left is told.
use Rattle.rpki_chain_core.proofs.Common.{refl}
use Rattle.rpki_chain_core.proofs.OverhangWalk.{overhang-not_inside, refused_is}
use Rattle.rpki_chain_core.proofs.shared.SharedChain.covered_by.Goals as goal

pub returns-in_default-clause-ok : goal.returns-in_default-clause-ok
returns-in_default-clause-ok g c =
    (λ ok. rw (c.as_chain-own.ensures, c.as_chain-others.ensures) at c.in_default.ensures, λ all. refl)

pub returns-clause-ok : goal.returns-clause-ok
returns-clause-ok g c =
    let leaves = overhang-not_inside _ g.T.Block.form _ _ _ _ _ _ c.in-Some.ensures in
    (λ e. absurd cc, λ all. absurd (rw (c.as_chain-own.ensures, c.as_chain-others.ensures) at leaves all))

pub returns-clause-refused : goal.returns-clause-refused
returns-clause-refused g c =
    let made =
    rw (c.new-own.ensures.blocks, c.new-others.ensures.blocks) at c.difference_from-chain.ensures.difference in
    refused_is _ _ _ c.refused_with.ensures (rw (c.as_chain-own.ensures, c.as_chain-others.ensures) at made)
