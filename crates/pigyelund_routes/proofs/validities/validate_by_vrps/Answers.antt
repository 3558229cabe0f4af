-- The validities by the table are those by the VRPs.
use Rattle.std.proofs.Common.{inl}
use Rattle.pigyelund_routes.proofs.TableValidityLemmas.{validated_by}
use Rattle.pigyelund_routes.proofs.validities.validate_by_vrps.Goals as goal

pub returns-in-Ok : goal.returns-in-Ok
returns-in-Ok c =
    let (vrps, each, permuted) = c.in-Ok.ensures in
    inl (vrps, each, validated_by vrps c.in-Ok.table permuted c.args.routes.now _ _ _ _ _ _ c.validate_routes.ensures)
