use Rattle.origins_lines.proofs.VrpTextLemmas.{item_is_utf8}
use Rattle.origins_lines.proofs.explanation.push_item.Goals as goal

pub push_before-requires-clause-utf8 : goal.push_before-requires-clause-utf8
push_before-requires-clause-utf8 g c =
    let lawful = c.requires in
    rw c.put_item-end.ensures.text
    (item_is_utf8 c.args.vrp.now lawful.prefix lawful.number c.args.form c.args.is_first c.args.reason)
