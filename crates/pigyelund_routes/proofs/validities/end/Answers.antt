-- What one lookup more finds is written.
use Rattle.pigyelund_routes.proofs.Common.{List, arith, refl, subst, sym, ℕ, ◌+◌, ◌≡◌}
use Rattle.roa_origin.specs.Lookups.{RouteLookup}
use Rattle.pigyelund_routes.specs.Lookups.{AreAppended, IsLookupReason, IsLookupValidity, IsReasonFound}
use Rattle.pigyelund_routes.specs.Lookups.{IsValidityFound}
use Rattle.pigyelund_routes.specs.Origins.{validity_number}
use Rattle.pigyelund_routes.specs.Reasons.{reason_number}
use Rattle.pigyelund_routes.proofs.InterleavedLemmas.{one_appended}
use Rattle.pigyelund_routes.proofs.ReasonLemmas.{reason_is}
use Rattle.pigyelund_routes.proofs.validities.end.Goals as goal

pub loop-offset-preserved : goal.loop-offset-preserved
loop-offset-preserved c =
    let (octets, reasons) = c.loop-offset.invariant in
    let one = c.index-lookups-offset in
    let found = c.validity_and_asn-found in
    let offset = c.loop-offset.offset in
    let reason =
    reason_is _ _ _ found.result.validity found.result.has_covering_asn
    (reason_number found.result.validity found.result.has_covering_asn) found.ensures.asn refl in (
      subst
          (λ (ys : List ℕ).
          AreAppended (IsValidityFound c.args.lookups.now) c.args.at (offset + 1) c.args.octets.now ys)
          (sym c.put_found.ensures.octets)
          (one_appended (IsValidityFound c.args.lookups.now) c.args.at offset c.args.octets.now c.loop-offset.octets
          (validity_number found.result.validity) (omega (arith, c.loop-offset.auto.octets)) (
            one.result,
            sym one.is,
            subst (λ (s : RouteLookup). IsLookupValidity s (validity_number found.result.validity))
                (sym one.is) (found.result.validity, found.ensures.validity, refl),
          ) octets),
      subst
          (λ (ys : List ℕ).
          AreAppended (IsReasonFound c.args.lookups.now) c.args.at (offset + 1) c.args.reasons.now ys)
          (sym c.put_found.ensures.reasons)
          (one_appended (IsReasonFound c.args.lookups.now) c.args.at offset c.args.reasons.now c.loop-offset.reasons
          (reason_number found.result.validity found.result.has_covering_asn)
          (omega (arith, c.loop-offset.auto.reasons)) (
            one.result,
            sym one.is,
            subst (λ (s : RouteLookup). IsLookupReason s
                (reason_number found.result.validity found.result.has_covering_asn))
                (sym one.is) (found.result.validity, found.ensures.validity, reason),
          ) reasons),
    )

pub returns-clause-octets : goal.returns-clause-octets
returns-clause-octets c =
    let done : c.loop-offset.offset ≡ c.args.count = omega (arith, c.loop-offset.auto.offset-end) in
    subst
    (λ (n : ℕ). AreAppended (IsValidityFound c.args.lookups.now) c.args.at n c.args.octets.now c.loop-offset.octets)
    done c.loop-offset.invariant.0

pub returns-clause-reasons : goal.returns-clause-reasons
returns-clause-reasons c =
    let done : c.loop-offset.offset ≡ c.args.count = omega (arith, c.loop-offset.auto.offset-end) in
    subst
    (λ (n : ℕ). AreAppended (IsReasonFound c.args.lookups.now) c.args.at n c.args.reasons.now c.loop-offset.reasons)
    done c.loop-offset.invariant.1
