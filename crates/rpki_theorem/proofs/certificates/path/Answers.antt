-- The path is one of claims, kind by kind.
use Rattle.rpki_theorem.proofs.CertificateLemmas.{accepted_on_path}
use Rattle.rpki_theorem.proofs.ReadLemmas.{ok_of, refused_of}
use Rattle.rpki_theorem.proofs.certificates.path.Goals as goal

pub returns-clause-left : goal.returns-clause-left
returns-clause-left g c =
    let law = c.kinds_of_paths.ensures.result c.args.anchor.now in
    let all = c.args.certificates.now in
    ok_of _ _ _ c.verified_path.result
    (λ set h. accepted_on_path c.args.anchor.now set all ((law set all c.recall_invariant.ensures).0 h))
    c.verified_path.ensures.path

pub returns-clause-refused : goal.returns-clause-refused
returns-clause-refused g c = refused_of _ _ _ c.verified_path.result (λ e h. h) c.verified_path.ensures.path

pub returns-clause-excess : goal.returns-clause-excess
returns-clause-excess g c =
    let law = c.kinds_of_paths.ensures.refusal c.args.anchor.now c.args.certificates.now in
    refused_of _ _ _ c.verified_path.result (λ e h named. (law e named).0 h) c.verified_path.ensures.path
