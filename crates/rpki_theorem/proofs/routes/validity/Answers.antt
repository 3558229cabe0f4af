-- A route has one validity by a list and by the table of the list.
use Rattle.rpki_theorem.proofs.routes.validity.Goals as goal

pub returns-in-Ok-clause-table : goal.returns-in-Ok-clause-table
returns-in-Ok-clause-table g c =
    let route = c.args.route in
    let asn = c.args.asn in
    let found = c.origin-found in
    let listed = c.origin-listed in
    let same = c.in-Ok.ensures.validity route asn listed.result listed.ensures in
    (c.in-Ok.ensures.vrps, c.laws_of_validities.ensures.one route asn _ found.result listed.result found.ensures same)
