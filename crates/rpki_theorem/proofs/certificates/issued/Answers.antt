-- The set is verified by claims of the certificate.
use Rattle.rpki_theorem.proofs.ReadLemmas.{ok_of, refused_of}
use Rattle.rpki_theorem.proofs.certificates.issued.Goals as goal

pub returns-clause-claimed : goal.returns-clause-claimed
returns-clause-claimed g c =
    ok_of _ _ _ c.verified_octets.result
    (λ set h. c.sets_of_certificates.ensures c.args.issuer.now set c.args.certificate.now h)
    c.verified_octets.ensures.verified

pub returns-clause-refused : goal.returns-clause-refused
returns-clause-refused g c =
    refused_of _ _ _ c.verified_octets.result (λ e h. h) c.verified_octets.ensures.verified
