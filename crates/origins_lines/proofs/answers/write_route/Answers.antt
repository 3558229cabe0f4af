-- The outcome, what explains it behind, and the end.
use Rattle.origins_lines.proofs.Common.{append-nil, append_assoc, arith, common_steps, string_bytes}
use Rattle.origins_lines.proofs.Common.{IsRouteAnswer, ◌++◌, ◌≡◌}
use Rattle.std.specs.Prelude.{codes}
use Rattle.std.proofs.lemmas.Result.{on_ok_weaker}
use Rattle.origins_lines.proofs.answers.write_route.Goals as goal

pub returns-in-Words : goal.returns-in-Words
returns-in-Words g c =
    let asked = c.requires.asked in
    let is = rw (asked.prefix, asked.asn) at c.outcome_of.ensures in
    let (more, explains, text) = c.in_ok-push_explanation.ensures in
    (c.outcome_of.result, is, more, explains, grind (arith, common_steps, append-nil))

pub returns-in-Json : goal.returns-in-Json
returns-in-Json g c =
    let asked = c.requires.asked in
    let is = rw (asked.prefix, asked.asn) at c.outcome_of.ensures in
    let (more, explains, text) = c.in_ok-push_explanation.ensures in
    let turn : string_bytes c.push_str.new.self ≡ string_bytes c.push_explanation.new.text ++ codes "}"
    → IsRouteAnswer c.args.form c.args.why c.args.asked.now.lookup.vrps c.args.asked.now.route
    (string_bytes c.push_str.new.self) =
    λ whole. (c.outcome_of.result, is, more, explains, grind (arith, common_steps, append_assoc, whole)) in
    on_ok_weaker c.push_str.result turn (grind (arith, common_steps))
