use Rattle.rpki_extensions.proofs.read.read_ip_claims.Goals as goal

pub returns-in-Ok-clause-claims : goal.returns-in-Ok-clause-claims
returns-in-Ok-clause-claims g c = (c.in-Ok.found, c.in-Ok.ensures.claims, c.each_or_missing.ensures.value)
