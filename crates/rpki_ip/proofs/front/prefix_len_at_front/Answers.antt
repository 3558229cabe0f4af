-- The digits at the front are the length.
use Rattle.rpki_ip.proofs.Common.{arith, refl, ◌∙◌, ◌≤◌, width}
use Rattle.std.proofs.lemmas.List.{take_rest}
use Rattle.rpki_ip.proofs.PrefixFrontLemmas.{prefix_at}
use Rattle.rpki_ip.proofs.front.prefix_len_at_front.Goals as goal

pub returns : goal.returns
returns g c =
    let first = g.A.FamilyAddr.ip c.args.first in
    let small : c.digits_from-len.result.0 ≤ width first =
    omega (arith, c.if-len-from.false, c.from.ensures, g.met.A.FamilyAddr.has_width c.args.first) in
    rw (take_rest c.args.text.now c.digits_from-len.result.1)
    (prefix_at first c.args.text.now _ _ c.new.result c.digits_from-len.ensures c.if-end-eq0.false small
    (c.new.ensures.value ∙ rw c.least.ensures refl))
