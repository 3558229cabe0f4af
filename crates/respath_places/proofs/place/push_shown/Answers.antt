-- The characters of the text are shown one by one.
use Rattle.std.proofs.Common.{rules, tests}
use Rattle.std.proofs.lemmas.Iterator.{YieldsList-from_chars, YieldsList-from_map}
use Rattle.std.proofs.lemmas.Iterator.Adapters.{items_from_extend}
use Rattle.std.specs.Char.{is_control}
use Rattle.std.specs.Prelude.{if◌then◌else◌}
use Rattle.respath_places.proofs.place.push_shown.Goals as goal

pub returns : goal.returns
returns g c =
    items_from_extend c.extend.result c.extend.ensures.ran
    (YieldsList-from_map _ (λ c. if is_control c then 63 else c)
    (YieldsList-from_chars c.args.text.now c.utf8.text (cc)) (cc) (λ x r q k. search (rules, tests)))
