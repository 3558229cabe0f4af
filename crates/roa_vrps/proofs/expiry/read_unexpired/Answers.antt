use Rattle.roa_vrps.proofs.Common.{MayWantMemory, Ok, arith, unexpired_value}
use Rattle.roa_vrps.proofs.FileLemmas.{file_wants, one_each, unexpired_exact}
use Rattle.roa_vrps.proofs.Outcomes.{answers}
use Rattle.roa_vrps.proofs.expiry.read_unexpired.Goals as goal

pub unexpired-requires : goal.unexpired-requires
unexpired-requires g c = let each = one_each c.args.text.now _ _ c.in_ok-vrps.ensures in grind (arith, each)

pub returns-clause-answers : goal.returns-clause-answers
returns-clause-answers g c =
    answers (unexpired_exact c.args.text.now c.args.time) ⊥ unexpired_value (Ok _)
    (record {
      vrps = c.in_ok-vrps.vrps.items;
      expiries = c.in_ok-vrps.expiries.items;
      dated = c.in_ok-vrps.ensures;
      kept_are = grind arith;
      expired_are = grind arith;
    })

pub returns-in_err-kept-clause-memory : goal.returns-in_err-kept-clause-memory
returns-in_err-kept-clause-memory g c = let wants = file_wants _ _ c.in_ok-vrps.ensures.1 in grind (arith, wants)

pub returns-in_err-vrps-clause-answers : goal.returns-in_err-vrps-clause-answers
returns-in_err-vrps-clause-answers g c =
    answers (unexpired_exact c.args.text.now c.args.time) (MayWantMemory c.args.text.now) unexpired_value
    c.from_residual.result (grind arith)
