-- What the VRPs of the tables so far find.
use Rattle.pigyelund_routes.proofs.Common.{take}
use Rattle.pigyelund_routes.specs.SeveralTables.{IsFound, all_vrps}
use Rattle.pigyelund_routes.proofs.several_tables.found_by.Given as goal

abbrev pub invariant-loop-table : goal.invariant-loop-table
invariant-loop-table l = IsFound l.fn.route l.fn.asn (all_vrps (take l.table-index l.fn.tables)) l.found
