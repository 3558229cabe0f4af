-- What the digits give, behind a plus or with none.
use Rattle.rpki_text.proofs.Common.{length, sym, ◌∙◌, eqb-false}
use Rattle.rpki_text.proofs.NumberLemmas.{from_digits}
use Rattle.rpki_text.proofs.number.parse_up_to.Goals as goal

pub returns : goal.returns
returns c =
    let is = c.after_plus-digits.ensures in
    let some = eqb-false (length c.args.text.now) 0 (sym c.is_empty.ensures ∙ c.if-is_empty.false) in
    let more = eqb-false (length c.after_plus-digits.result.now) 0 (sym c.is_empty-2.ensures ∙ c.if-is_empty-2.false) in
    from_digits _ _ _ some (rw is at more) (rw is at c.read_digits.ensures)
