use Rattle.origins_lines.proofs.Common.{string_bytes}
use Rattle.std.proofs.lemmas.Result.{on_ok_weaker}
use Rattle.origins_lines.proofs.AnswerLemmas.{asked_answered, wrong_answered}
use Rattle.origins_lines.proofs.answers.RoutesSteps.end.Goals as goal

pub returns-in-Asked : goal.returns-in-Asked
returns-in-Asked g c =
    on_ok_weaker c.write_route.result
    (asked_answered c.args.self.now.form c.args.self.now.why c.args.self.now.table.now c.args.line.now
    (string_bytes c.write_route.new.text) c.args.begun.now c.requires c.in-Asked.asked c.in-Asked.is)
    c.write_route.ensures

pub returns-in-Wrong : goal.returns-in-Wrong
returns-in-Wrong g c =
    on_ok_weaker c.write_fault.result
    (wrong_answered c.args.self.now.form c.args.self.now.why c.args.self.now.table.now c.args.line.now
    (string_bytes c.write_fault.new.text) c.args.begun.now c.requires c.in-Wrong.fault c.in-Wrong.is)
    c.write_fault.ensures
