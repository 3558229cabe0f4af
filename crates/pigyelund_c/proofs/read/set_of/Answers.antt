-- Claims that were read, of which one at least is inherited.
use Rattle.std.proofs.Common.{subst}
use Rattle.rpki_text.specs.Memory.{IfRefused}
use Rattle.rpki_resources.specs.Triples.{IsOneInherited}
use Rattle.pigyelund_c.proofs.read.set_of.Goals as goal

pub returns-in-Err-Refused-from_resources : goal.returns-in-Err-Refused-from_resources
returns-in-Err-Refused-from_resources c = record {
  asn = c.in-Ok.asn;
  ip = c.in-Ok-ip_claims.claims;
  are_numbers = c.in-Ok.ensures;
  are_addresses = c.in-Ok-ip_claims.ensures.claims;
  inherited =
      subst
      (IfRefused (λ _. IsOneInherited c.in-Ok.asn c.in-Ok-ip_claims.claims.0
      c.in-Ok-ip_claims.claims.1)) c.in-Err-Refused-from_resources.field-0-is
      c.in-Err-Refused-from_resources.ensures.found;
}
