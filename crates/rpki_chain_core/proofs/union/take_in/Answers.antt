-- The run is made longer, or closed where the next bounds don't touch it.
use Rattle.rpki_chain_core.proofs.Common.{numbers}
use Rattle.rpki_chain_core.proofs.RunJoining.{longer_turn, closed_turn}
use Rattle.rpki_chain_core.proofs.union.take_in.Goals as goal

pub returns-in-Some : goal.returns-in-Some
returns-in-Some g c =
    let over = c.in-Some.ensures in
    let turn = longer_turn g.T.Block.number _ c.in-Some.longer c.args.run.now c.args.next c.requires.run
    c.requires.behind c.requires.to_last over.from over.to over.over in
    record { run = turn.behind; behind = turn.begins; held = turn.held }

pub returns : goal.returns
returns g c =
    let turn = closed_turn c.requires.run c.new.ensures.bounds c.new.ensures.value
    (numbers g.T.Block.number c.args.next) c.requires.ordered c.requires.to_last c.in_default.ensures.apart in
    rw c.in_ok-push.ensures.items record { run = turn.behind; behind = turn.begins; held = turn.held }
