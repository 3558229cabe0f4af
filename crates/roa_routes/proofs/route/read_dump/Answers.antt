use Rattle.roa_routes.proofs.Common.{after_last, ap, is_space, ◌∙◌}
use Rattle.roa_routes.proofs.RouteLineLemmas.{dump_found}
use Rattle.roa_routes.proofs.route.read_dump.Goals as goal

pub returns : goal.returns
returns c =
    dump_found c.args.path_place c.args.line.now c.in-Some.prefix.now c.in-Some-field_at.path.now
    c.last_word.result.now c.read_fields.result c.in-Some.ensures c.in-Some-field_at.ensures
    (c.last_word.ensures ∙ ap (after_last is_space) c.trim.ensures.trim) c.read_fields.ensures
