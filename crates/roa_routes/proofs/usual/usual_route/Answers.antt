use Rattle.roa_routes.proofs.Common.{arith, eqb-true, nil_from_length, ◌≡◌}
use Rattle.roa_routes.proofs.UsualRouteLemmas.{usual_line}
use Rattle.roa_routes.proofs.usual.usual_route.Goals as goal

pub returns-in-Ok : goal.returns-in-Ok
returns-in-Ok c =
    let same : c.from_u32.result ≡ c.in_ok-asn.asn = grind arith in
    rw same
    (usual_line c.args.line.now _ _ _ _ _ _ c.in-Some.ensures c.in_ok-word.ensures c.in_ok-asn.ensures
    (grind (arith, eqb-true, nil_from_length)) c.in-Ok.ensures)
