-- A table is in order.
use Rattle.roa_origin.proofs.table.OriginTable.vrps.Goals as goal

pub returns-clause-order : goal.returns-clause-order
returns-clause-order g c = rw (c.of.ensures, c.as_slice.ensures.value) c.self.invariant.0.in_order.ranked
