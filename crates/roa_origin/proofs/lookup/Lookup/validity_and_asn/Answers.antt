-- The VRP that was read at the end of the search is the nearest that covers the route.
use Rattle.roa_origin.proofs.CoveringVrps.{near_read}
use Rattle.roa_origin.proofs.lookup.Lookup.validity_and_asn.Goals as goal

pub validity_by-requires-clause-nearest : goal.validity_by-requires-clause-nearest
validity_by-requires-clause-nearest c = near_read c.self.invariant c.if-self.true
