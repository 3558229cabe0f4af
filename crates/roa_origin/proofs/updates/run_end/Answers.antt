-- The VRP at the place is one of the run.
use Rattle.roa_origin.proofs.Common.{arith, Change}
use Rattle.roa_origin.proofs.LinkWalks.{nowhere}
use Rattle.roa_origin.proofs.updates.run_end.Goals as goal

pub returns-clause-some : goal.returns-clause-some
returns-clause-some c =
    let e : Change = record { vrp = nowhere; place = 0 } in
    let before = c.end_before-before.ensures.from c.args.at nowhere e in
    let up_to = c.end_up_to-up_to.ensures.later c.args.at nowhere e in
    grind (arith, before, up_to, c.requires.before nowhere e, c.requires.up_to nowhere e, c.min.ensures)
