use Rattle.rpki_as_block.proofs.Common.{ap, arith, sym, ◌∙◌, ◌≡◌, nat_tests}
use Rattle.std.specs.Result.{result_ok}
use Rattle.rpki_as_block.proofs.text.read_range.Goals as goal

pub returns-in_err-min : goal.returns-in_err-min
returns-in_err-min c = rw c.from_residual.ensures (λ b h.
    let e = ap result_ok (c.from_str.ensures.exact.each_value b.0 h.min_text) in
    let none = c.in_err-min.ensures.value in
    cc)

pub returns-in_err-max : goal.returns-in_err-max
returns-in_err-max c = rw c.from_residual-in_err-max.ensures (λ b h.
    let e = ap result_ok (c.from_str-2.ensures.exact.each_value b.1 h.max_text) in
    let none = c.in_err-max.ensures.value in
    cc)

pub returns-then-gt : goal.returns-then-gt
returns-then-gt c = λ b h.
    let e = ap result_ok (c.from_str.ensures.exact.each_value b.0 h.min_text) in
    let f = ap result_ok (c.from_str-2.ensures.exact.each_value b.1 h.max_text) in
    let p = c.in_ok-min.ensures.value in
    let q = c.in_ok-max.ensures.value in
    let same_min : c.in_ok-min.min ≡ b.0 = cc in
    let same_max : c.in_ok-max.max ≡ b.1 = cc in
    let in_order = h.in_order in
    let above = sym c.gt.ensures ∙ c.if-gt.true in
    grind (arith, nat_tests)
