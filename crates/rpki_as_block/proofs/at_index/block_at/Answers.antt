-- One number is a block, and two round a dash where they are in order.
use Rattle.rpki_as_block.proofs.Common.{arith, sym, ◌<◌, ◌∙◌, ◌≤◌, nat_tests, StandsAt}
use Rattle.rpki_as_block.proofs.AsBlockIndexLemmas.{first_number, id_alone, id_between, range_alone, range_between}
use Rattle.rpki_as_block.proofs.AsBlockIndexLemmas.{two_numbers}
use Rattle.rpki_as_block.proofs.at_index.block_at.Goals as goal
use Rattle.rpki_as_block.proofs.at_index.block_at.Goals.{then-dash-text-via-then-dash-text}
use Rattle.rpki_as_block.proofs.at_index.block_at.Goals.{then-dash-text-via-else-dash-text+then-text-dash-ne45}

pub returns-then-dash-text-clause-found : goal.returns-then-dash-text-clause-found
returns-then-dash-text-clause-found c = id_between _ _ _ _ c.in_ok-min.ensures.number

pub returns-clause-found : goal.returns-clause-found
returns-clause-found c =
    let above = sym c.gt.ensures ∙ c.if-gt.false in
    let ordered : c.in_ok-min.min ≤ c.in_ok-max.max = grind (arith, nat_tests) in
    rw c.new.ensures (range_between _ _ _ _ (record { min = c.in_ok-min.min; max = c.in_ok-max.max })
    c.in_ok-min.ensures.number c.if-text-dash-ne45.false c.in_ok-max.ensures.number ordered)

pub returns-in_err-min-clause-each : goal.returns-in_err-min-clause-each
returns-in_err-min-clause-each c b end h =
    let (n, middle, there) = first_number _ _ _ b h in
    let none = c.in_err-min.ensures.each n middle there in
    absurd cc

pub returns-then-dash-text-clause-each : goal.returns-then-dash-text-clause-each
returns-then-dash-text-clause-each c b end h =
    let no : ¬ StandsAt 45 c.in_ok-min.dash c.args.text.now = elim c.then-dash-text.branch [
      | then-dash-text-via-then-dash-text w ↦ λ k. omega (arith, w.if-dash-text.true, k.0)
      | then-dash-text-via-else-dash-text+then-text-dash-ne45 w ↦ λ k. w.if-text-dash-ne45.true k.1
    ] in
    id_alone _ _ _ _ c.in_ok-min.ensures.each no b end h

pub returns-in_err-max-clause-each : goal.returns-in_err-max-clause-each
returns-in_err-max-clause-each c b end h =
    let dash_there : StandsAt 45 c.in_ok-min.dash c.args.text.now =
    (omega (arith, c.if-dash-text.false, c.in_ok-min.ensures.number.within), c.if-text-dash-ne45.false) in
    let (max, is, there, ordered) = two_numbers _ _ _ _ c.in_ok-min.ensures.each dash_there b end h in
    let none = c.in_err-max.ensures.each max end there in
    absurd cc

pub returns-then-gt-clause-each : goal.returns-then-gt-clause-each
returns-then-gt-clause-each c b end h =
    let dash_there : StandsAt 45 c.in_ok-min.dash c.args.text.now =
    (omega (arith, c.if-dash-text.false, c.in_ok-min.ensures.number.within), c.if-text-dash-ne45.false) in
    let above = sym c.gt.ensures ∙ c.if-gt.true in
    let turned : c.in_ok-max.max < c.in_ok-min.min = grind (arith, nat_tests) in
    absurd (omega (
      arith,
      turned,
      (range_alone _ _ _ _ _ _ c.in_ok-min.ensures.each dash_there c.in_ok-max.ensures.each b end h).1,
    ))

pub returns-clause-each : goal.returns-clause-each
returns-clause-each c b end h =
    let dash_there : StandsAt 45 c.in_ok-min.dash c.args.text.now =
    (omega (arith, c.if-dash-text.false, c.in_ok-min.ensures.number.within), c.if-text-dash-ne45.false) in
    rw c.new.ensures ((range_alone _ _ _ _ _ _ c.in_ok-min.ensures.each dash_there c.in_ok-max.ensures.each b end h).0)
