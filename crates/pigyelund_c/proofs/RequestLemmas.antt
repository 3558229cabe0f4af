-- The outcome of a request, from the answer of the issuer's set.
use Rattle.std.proofs.Common.{ℕ, List, Result, Ok, Err, MatchResult, inl, inr, ◌≡◌}
use Rattle.std.specs.Result.{IsErrAnd}
use Rattle.rpki_text.specs.Memory.{IfRefused, IsMemory, IsRefusedAnd, MatchOrMemory}
use Rattle.rpki_text.specs.declared.memory.OrMemory.{OrMemory}
use Rattle.rpki_text.specs.declared.memory.OrMemory.TheVariants.{Memory, Refused}
use Rattle.rpki_resources.specs.Triples.{Triple}
use Rattle.rpki_extensions.specs.Issued.{IsVerified}
use Rattle.pigyelund_c.specs.Requests.{IsNoRequest, IsRequest}
use Rattle.pigyelund_c.specs.Verified.{IsNoOutcome, IsOutcome, IsVerifyRefusal}
use Rattle.pigyelund_c.specs.declared.refusal.Refusal.{Refusal}
use Rattle.pigyelund_c.specs.declared.request.Request.{Request}

module _ (issuer_as issuer_ip : List ℕ) (present : ℕ) (cert_as cert_ip : List ℕ) (encoding mode : ℕ) where
  -- the reason why there is no request
  of_reason : (reason : Refusal) → IsNoRequest issuer_as issuer_ip present cert_as cert_ip encoding mode reason
      → IsNoOutcome issuer_as issuer_ip present cert_as cert_ip encoding mode reason
  of_reason reason (inl unknown) = inl unknown
  of_reason reason (inr (way, same, inl wrong)) = inr (way, same, inl wrong)
  of_reason reason (inr (way, same, inr (certificate, is, unread))) = inr (way, same, inr (certificate, is, inl unread))

  pub no_request : (error : OrMemory Refusal)
      → IfRefused (IsNoRequest issuer_as issuer_ip present cert_as cert_ip encoding mode) error
      → IfRefused (IsNoOutcome issuer_as issuer_ip present cert_as cert_ip encoding mode) error
  no_request (Refused reason) is = of_reason reason is
  no_request (Memory error) is = tt

  -- the answer of the issuer's set, with its reason turned into a refusal
  pub of_request : {E : Type 0} (request : Request) (Fails : E → Type 0) (T : E → Refusal → Type 0)
      (answer : Result Triple (OrMemory E)) (outcome : Result Triple (OrMemory Refusal))
      → IsRequest issuer_as issuer_ip present cert_as cert_ip encoding mode request
      → MatchResult answer (IsVerified request.issuer request.certificate) (IfRefused Fails)
      → MatchResult answer (λ set. outcome ≡ Ok set) (λ error. IsErrAnd outcome (λ turned.
      MatchOrMemory error (λ reason. IsRefusedAnd turned (T reason)) (IsMemory turned)))
      → ((reason : E) (refusal : Refusal) → Fails reason → T reason refusal
      → IsVerifyRefusal request.issuer request.certificate refusal)
      → MatchResult outcome (IsOutcome issuer_as issuer_ip present cert_as cert_ip encoding mode)
      (IfRefused (IsNoOutcome issuer_as issuer_ip present cert_as cert_ip encoding mode))
  of_request request Fails T (Ok set) outcome (way, same, is, lists) verified turned each =
      rw turned (way, same, (request.certificate, is, (request.issuer, lists, verified)))
  of_request request Fails T (Err error) (Ok set) asked wrong turned each = absurd turned
  of_request request Fails T (Err (Refused reason)) (Err (Refused refusal)) (way, same, is, lists) wrong turned each =
      inr (
        way,
        same,
        inr (request.certificate, is, inr (request.issuer, lists, each reason refusal wrong turned)),
      )
  of_request request Fails T (Err (Refused reason)) (Err (Memory error)) asked wrong turned each = tt
  of_request request Fails T (Err (Memory memory)) (Err (Refused refusal)) asked wrong turned each = absurd turned
  of_request request Fails T (Err (Memory memory)) (Err (Memory error)) asked wrong turned each = tt
