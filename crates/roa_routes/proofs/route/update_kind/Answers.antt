-- The third field says what the update does.
use Rattle.roa_routes.proofs.Common.{IsFieldAt, arith, codes, inl, inr}
use Rattle.roa_routes.proofs.FieldLemmas.{update_is}
use Rattle.roa_routes.proofs.route.update_kind.Goals as goal

pub returns-in-Some-W : goal.returns-in-Some-W
returns-in-Some-W c =
    let (name, at, update) = c.requires in
    let third : IsFieldAt 2 c.args.line.now (codes "W") = grind (arith, c.in-Some-W.ensures, c.in-Some-W.is-W) in
    (c.args.place, inl (update_is c.args.line.now name at c.args.place _ update third))

pub returns-in-Some-W-2 : goal.returns-in-Some-W-2
returns-in-Some-W-2 c =
    let (name, at, update) = c.requires in
    let third : IsFieldAt 2 c.args.line.now (codes "STATE") =
    grind (arith, c.in-Some-W.ensures, c.in-Some-W.is-STATE) in
    (c.args.place, inr (update_is c.args.line.now name at c.args.place _ update third))
