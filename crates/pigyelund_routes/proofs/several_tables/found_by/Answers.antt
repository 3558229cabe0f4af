-- What the VRPs of one table more find.
use Rattle.pigyelund_routes.proofs.Common.{List, subst, sym, take}
use Rattle.roa_origin.specs.Vrps.{Vrp}
use Rattle.pigyelund_routes.specs.SeveralTables.{IsFound, all_vrps}
use Rattle.pigyelund_routes.proofs.SeveralTableLemmas.{found_in, more_vrps}
use Rattle.pigyelund_routes.proofs.several_tables.found_by.Goals as goal

pub loop-table-preserved : goal.loop-table-preserved
loop-table-preserved c =
    let tables = c.args.tables.now in let at = c.loop-table.table-index in let one = c.table-item.result in
    let route = c.args.route in let asn = c.args.asn in let look = c.lookup.ensures in
    let more = more_vrps tables at one c.loop-table-test.true c.table-item.is in
    let found =
    found_in c.lookup.result route asn c.in-Some.table.now one.vrps c.validity_and_asn.result look.vrps
    c.in-Some.ensures.0 look.route look.asn c.validity_and_asn.ensures.validity c.validity_and_asn.ensures.asn in
    subst (λ (vrps : List Vrp). IsFound route asn vrps c.joined-found.result) (sym more)
    (c.joined-found.ensures route asn (all_vrps (take at tables)) one.vrps c.loop-table.invariant found)
