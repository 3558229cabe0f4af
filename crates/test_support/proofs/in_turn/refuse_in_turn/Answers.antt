use Rattle.std.proofs.Common.{◌≡◌, refl, arith, inl, inr}
use Rattle.std.proofs.lemmas.Bool.{cases_lt}
use Rattle.std.proofs.lemmas.Fn.{says_at}
use Rattle.test_support.proofs.in_turn.refuse_in_turn.Goals as goal

pub returns-in-false-Expected-clause-last : goal.returns-in-false-Expected-clause-last
returns-in-false-Expected-clause-last g c =
    (c.new-refusing.result, c.new-refusing.ensures.plan, says_at g.F.Fn c.run-outcome.ensures c.in-false-Expected.is-1)

pub returns-in_default-clause-failed : goal.returns-in_default-clause-failed
returns-in_default-clause-failed g c = λ below. (
  c.run-outcome.result,
  (c.new-refusing.result, c.new-refusing.ensures.plan, says_at g.F.Fn c.run-outcome.ensures refl),
)

pub returns-clause-before : goal.returns-clause-before
returns-clause-before g c = λ earlier below. c.loop-number.invariant earlier (omega arith)

pub loop-number-preserved : goal.loop-number-preserved
loop-number-preserved g c = λ m below. elim (cases_lt m c.loop-number.number) [
  | inl lt ↦ c.loop-number.invariant m lt
  | inr ge ↦
      let same : c.loop-number.number ≡ m = omega arith in (
        c.new-refusing.result,
        rw same at c.new-refusing.ensures.plan,
        says_at g.F.Fn c.run-outcome.ensures c.in-true-OutOfMemory.is-1,
      )
]
