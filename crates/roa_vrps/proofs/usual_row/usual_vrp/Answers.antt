-- The columns allow the line.
use Rattle.roa_vrps.proofs.UsualRowLemmas.{usual_found}
use Rattle.roa_vrps.proofs.usual_row.usual_vrp.Goals as goal

pub returns-then-allow : goal.returns-then-allow
returns-then-allow c =
    usual_found c.args.columns c.args.line.now _ _ _ _ _ _ _ _ _ c.in_ok-asn.ensures c.in_ok-text.ensures
    c.in-Some.ensures c.in_ok-digits.ensures c.in_ok-max_len.ensures c.in_ok-count.ensures c.vrp_of.result
    (c.allow.ensures c.if-allow.true) c.vrp_of.ensures
