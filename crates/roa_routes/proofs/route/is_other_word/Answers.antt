-- No byte is a tab, so the word is another one if it is an AS number.
use Rattle.roa_routes.proofs.Common.{sym, ◌∙◌}
use Rattle.roa_routes.proofs.RouteLineLemmas.{other_word}
use Rattle.roa_routes.proofs.route.is_other_word.Goals as goal

pub returns-else-contains : goal.returns-else-contains
returns-else-contains c =
    let no_tab = rw c.as_bytes.ensures.value at (sym c.contains.ensures.value ∙ c.if-contains.false) in
    rw c.is_ok.ensures.value (other_word c.args.word.now c.from_str.result no_tab c.from_str.ensures.exact.found)
