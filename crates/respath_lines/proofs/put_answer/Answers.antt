use Rattle.respath_lines.proofs.Common.{arith, on_ok_weaker}
use Rattle.respath_lines.proofs.put_answer.Goals as goal

pub returns-in_default : goal.returns-in_default
returns-in_default g c =
    let not = c.in_default.ensures.cases.0 in
    on_ok_weaker c.write_text.result (λ is. grind (arith, not)) c.write_text.ensures
