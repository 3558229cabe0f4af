-- The two words are the texts before and after the first space, without white space at their ends.
use Rattle.roa_routes.proofs.Common.{ap, lit<, origin_word, prefix_word, trim, ◌∙◌, ◌≡◌}
use Rattle.roa_routes.proofs.vrp.read_line.Goals as goal

pub returns : goal.returns
returns c =
    let one : c.trim.result.now ≡ prefix_word c.args.text.now =
    c.trim.ensures.trim ∙ ap trim (c.cut_at.ensures.before (lit< tt)) in
    let other : c.trim-2.result.now ≡ origin_word c.args.text.now =
    c.trim-2.ensures.trim ∙ ap trim (c.cut_at.ensures.behind (lit< tt)) in
    rw (one, other) at c.vrp_of.ensures
