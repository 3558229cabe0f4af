-- The certificates leave the set below the anchor.
use Rattle.rpki_theorem.proofs.CertificateLemmas.{accepted_below}
use Rattle.rpki_theorem.proofs.ReadLemmas.{ok_of, refused_of}
use Rattle.rpki_theorem.proofs.certificates.below.Goals as goal

pub returns-clause-left : goal.returns-clause-left
returns-clause-left g c = ok_of _ _ _ c.verified_below.result (λ set h. h) c.verified_below.ensures.below

pub returns-clause-refused : goal.returns-clause-refused
returns-clause-refused g c = refused_of _ _ _ c.verified_below.result (λ e h. h) c.verified_below.ensures.below

pub returns-clause-accepted : goal.returns-clause-accepted
returns-clause-accepted g c =
    ok_of _ _ _ c.verified_below.result
    (accepted_below c.sets_of_certificates.ensures c.args.anchor.now c.args.certificates.now)
    c.verified_below.ensures.below
