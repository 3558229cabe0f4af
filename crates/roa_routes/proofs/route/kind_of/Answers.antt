use Rattle.roa_routes.proofs.Common.{IsTableName, IsUpdateName, arith, inl, inr, refl, ℕ}
use Rattle.roa_routes.proofs.FieldLemmas.{dump_is, first_field, no_dump, no_skip}
use Rattle.roa_routes.proofs.route.kind_of.Goals as goal

-- the line is of an update
pub update_kind-requires : goal.update_kind-requires
update_kind-requires c =
    (_, first_field c.args.line.now c.cut_at.result.0.now c.cut_at.ensures.before, inl (c.in-BGP4MP.is, refl))

pub update_kind-requires-in-BGP4MP_AP : goal.update_kind-requires-in-BGP4MP_AP
update_kind-requires-in-BGP4MP_AP c =
    (_, first_field c.args.line.now c.cut_at.result.0.now c.cut_at.ensures.before, inr (c.in-BGP4MP_AP.is, refl))

-- the line is of a table
pub returns-in-TABLE_DUMP2 : goal.returns-in-TABLE_DUMP2
returns-in-TABLE_DUMP2 c =
    let at = first_field c.args.line.now c.cut_at.result.0.now c.cut_at.ensures.before in
    dump_is c.args.line.now c.cut_at.result.0.now at 6 (search (arith)) (λ n is. search (arith))

pub returns-in-TABLE_DUMP2-2 : goal.returns-in-TABLE_DUMP2-2
returns-in-TABLE_DUMP2-2 c =
    let at = first_field c.args.line.now c.cut_at.result.0.now c.cut_at.ensures.before in
    dump_is c.args.line.now c.cut_at.result.0.now at 6 (search (arith)) (λ n is. search (arith))

pub returns-in-TABLE_DUMP2_AP : goal.returns-in-TABLE_DUMP2_AP
returns-in-TABLE_DUMP2_AP c =
    let at = first_field c.args.line.now c.cut_at.result.0.now c.cut_at.ensures.before in
    dump_is c.args.line.now c.cut_at.result.0.now at 7 (search (arith)) (λ n is. search (arith))

-- the first field is not the name of a table or of an update
pub returns-in_default : goal.returns-in_default
returns-in_default c =
    let name = c.cut_at.result.0.now in
    let at = first_field c.args.line.now name c.cut_at.ensures.before in
    let no_table : (n : ℕ) → ¬ IsTableName name n = λ n is. search (arith) in
    let no_update : (n : ℕ) → ¬ IsUpdateName name n = λ n is. search (arith) in
    (no_dump c.args.line.now name at no_table no_update, no_skip c.args.line.now name at no_update)
