use Rattle.rpki_prefix.proofs.Common.{None, ap, length, lit<, sym, ◌∙◌, eqb-false, split_parts}
use Rattle.rpki_prefix.specs.PrefixText.{FindsParts}
use Rattle.rpki_prefix.proofs.PrefixTextLemmas.{around_split, passed_on}
use Rattle.rpki_prefix.proofs.text.read_parts.Goals as goal

pub returns-in_default : goal.returns-in_default
returns-in_default c =
    let some = eqb-false (length c.args.text.now) 0 (sym c.is_empty.ensures ∙ c.if-is_empty.false) in
    ((λ e. some (ap length e)), split_parts 47 c.args.text.now None c.in_default.ensures.cases (lit< tt))

pub returns-in_err-addr : goal.returns-in_err-addr
returns-in_err-addr c =
    let fault = c.in_err-addr.ensures.exact.found in
    passed_on (FindsParts _) _ _ c.from_residual.ensures.1
    (around_split 47 _ c.in-Some.addr c.in-Some.len _ c.in-Some.ensures.cases (lit< tt) (fault.1, fault.0))

pub returns-in_err-len : goal.returns-in_err-len
returns-in_err-len c =
    passed_on (FindsParts _) _ _ c.from_residual-in_err-len.ensures.1
    (around_split 47 _ c.in-Some.addr c.in-Some.len _ c.in-Some.ensures.cases (lit< tt)
    (c.in_ok-addr.addr, c.in_ok-addr.ensures.exact.found, c.in_err-len.ensures.found))

pub returns : goal.returns
returns c = around_split 47 _ c.in-Some.addr c.in-Some.len _ c.in-Some.ensures.cases (lit< tt)
    (record { addr_text = c.in_ok-addr.ensures.exact.found; len_text = c.in_ok-len.ensures.found })
