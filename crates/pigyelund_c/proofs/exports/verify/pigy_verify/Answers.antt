use Rattle.std.proofs.Common.{MatchResult, ◌≡◌}
use Rattle.rpki_text.specs.Memory.{IfRefused}
use Rattle.pigyelund_c.proofs.RequestLemmas.{no_request, of_request}
use Rattle.pigyelund_c.specs.Verified.{IsNoOutcome, IsOutcome}
use Rattle.pigyelund_c.specs.declared.refusal.Refusal.TheVariants.{Unverified}
use Rattle.pigyelund_c.proofs.exports.verify.pigy_verify.Goals as goal
use Rattle.pigyelund_c.proofs.exports.verify.pigy_verify.Goals.{in-Ok+in-Some-1, in-Ok+in-None-1, in-Err}

pub returns : goal.returns
returns c =
    let is : MatchResult c.match-request_of.outcome (IsOutcome c.args.issuer_as.now c.args.issuer_ip.now c.args.present
    c.args.cert_as.now c.args.cert_ip.now c.args.encoding c.args.mode)
    (IfRefused (IsNoOutcome c.args.issuer_as.now c.args.issuer_ip.now c.args.present c.args.cert_as.now
    c.args.cert_ip.now c.args.encoding c.args.mode)) =
    elim c.match-request_of.branch [
      | in-Ok+in-Some-1 w ↦ rw w.outcome-is
          (of_request _ _ _ _ _ _ _ w.in-Ok.request _ (λ reason refusal. refusal ≡ Unverified reason)
          w.verified_octets.result w.refused_as-outcome.result
          w.in-Ok.ensures w.verified_octets.ensures.verified w.refused_as-outcome.ensures
          (λ reason refusal wrong said. rw said wrong))
      | in-Ok+in-None-1 w ↦ rw w.outcome-is
          (of_request _ _ _ _ _ _ _ w.in-Ok.request _ (λ reason refusal. refusal ≡ Unverified reason)
          w.verified_octets.result w.refused_as-outcome.result
          w.in-Ok.ensures w.verified_octets.ensures.verified w.refused_as-outcome.ensures
          (λ reason refusal wrong said. rw said wrong))
      | in-Err w ↦ rw w.outcome-is (no_request _ _ _ _ _ _ _ w.in-Err.error w.in-Err.ensures)
    ] in
    (c.match-request_of.outcome, is, c.write_outcome.ensures)
