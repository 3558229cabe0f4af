-- What the first list finds, or else the second.
use Rattle.pigyelund_routes.proofs.Common.{arith}
use Rattle.pigyelund_routes.proofs.SeveralTableLemmas.{found_joined}
use Rattle.pigyelund_routes.proofs.several_tables.joined.Goals as goal

pub returns-then-one : goal.returns-then-one
returns-then-one c route asn vrps others first second =
    rw c.joined_validity.ensures
    (found_joined route asn vrps others c.args.one c.args.other c.args.one.has_covering_asn
    (grind (arith, c.if-one.true)) first second)

pub returns-else-one : goal.returns-else-one
returns-else-one c route asn vrps others first second =
    rw c.joined_validity.ensures
    (found_joined route asn vrps others c.args.one c.args.other c.args.other.has_covering_asn
    (grind (arith, c.if-one.false)) first second)
