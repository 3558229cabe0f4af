-- What the lookup finds is the validity, and its reason.
use Rattle.pigyelund_routes.proofs.ReasonLemmas.{reason_is}
use Rattle.pigyelund_routes.proofs.validate.validate_route.Goals as goal

pub returns : goal.returns
returns c =
    let found = c.validity_and_asn-found in
    let is =
    rw (c.lookup.ensures.vrps, c.lookup.ensures.route, c.lookup.ensures.asn, c.from_u32.ensures)
    at found.ensures.validity in
    let has =
    rw (c.lookup.ensures.vrps, c.lookup.ensures.route, c.lookup.ensures.asn, c.from_u32.ensures) at found.ensures.asn in
    record {
      prefix = c.in-Ok.prefix;
      is_route = c.in-Ok.ensures;
      validity = found.result.validity;
      is_validity = is;
      is_number = c.number_of.ensures;
      is_reason = reason_is _ _ _ found.result.validity found.result.has_covering_asn _ has c.reason_number.ensures;
    }
