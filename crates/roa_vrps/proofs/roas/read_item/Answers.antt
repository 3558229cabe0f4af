use Rattle.roa_vrps.proofs.Common.{value_view}
use Rattle.roa_vrps.proofs.MemberLemmas.{texts_fail}
use Rattle.roa_vrps.proofs.roas.read_item.Goals as goal

pub returns-in-Err-read_fields : goal.returns-in-Err-read_fields
returns-in-Err-read_fields g c =
    texts_fail (value_view c.args.item.now) c.in-Ok.text.now c.in-Ok-text_of.text.now c.in-Ok-text_of-2.text.now
    c.in-Err-read_fields.fault c.in-Ok.ensures c.in-Ok-text_of.ensures c.in-Ok-text_of-2.ensures
    c.in-Err-read_fields.ensures
