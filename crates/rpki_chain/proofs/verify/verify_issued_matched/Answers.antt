use Rattle.rpki_chain.proofs.Common.{false≢true}
use Rattle.rpki_chain.proofs.IssuedClaims.{excess_refused, handed_on}
use Rattle.rpki_chain.proofs.verify.verify_issued_matched.Goals as goal

pub returns-in_err-covered_by : goal.returns-in_err-covered_by
returns-in_err-covered_by g c =
    let refusal = c.in_err-covered_by in
    let (lists, refuse) = c.in-Some.ensures.some in
    rw lists
    (handed_on _ _ refusal.field-0.0 c.from_residual.result c.from_residual.ensures.1
    (excess_refused c.args.set.now c.args.mode c.in-Some.listed.now refusal.field-0.0 refuse refusal.ensures.refused
    (λ inside. false≢true (refusal.ensures.ok.1 inside))))
