use Rattle.rpki_prefix.proofs.Common.{ArePrefixAndMax, None, Ok, inl, inr, lit<, split_parts, ReadsMaxLen}
use Rattle.rpki_prefix.proofs.MaxLenLemmas.{reads_max_len}
use Rattle.rpki_prefix.proofs.PrefixTextLemmas.{around_split, passed_on}
use Rattle.rpki_prefix.proofs.max_len.MaxLenPrefixFromStr.from_str.Goals as goal

-- no dash
pub returns-in_err-prefix : goal.returns-in_err-prefix
returns-in_err-prefix c =
    let none = split_parts 45 c.args.text.now None c.in_default.ensures.cases (lit< tt) in
    passed_on (ReadsMaxLen _) _ _ c.from_residual.ensures.1
    (reads_max_len _ _ (inl (none, c.in_err-prefix.ensures.exact.found)))

pub returns-in_default : goal.returns-in_default
returns-in_default c =
    let none = split_parts 45 c.args.text.now None c.in_default.ensures.cases (lit< tt) in
    rw c.from.ensures (reads_max_len _ (Ok _) (none, c.in_ok-prefix.ensures.exact.found))

-- a dash
pub returns-in_err-prefix-2 : goal.returns-in_err-prefix-2
returns-in_err-prefix-2 c =
    let cut = c.in-Some in
    passed_on (ReadsMaxLen _) _ _ c.from_residual-in_err-prefix-2.ensures.1 (reads_max_len _ _ (inr
    (around_split 45 _ cut.prefix cut.max_len _ cut.ensures.cases (lit< tt) c.in_err-prefix-2.ensures.exact.found)))

pub returns-in_err-max_len : goal.returns-in_err-max_len
returns-in_err-max_len c =
    passed_on (ReadsMaxLen _) _ _ c.from_residual-in_err-max_len.ensures.1 (reads_max_len _ _
    (around_split 45 _ c.in-Some.prefix c.in-Some.max_len _ c.in-Some.ensures.cases (lit< tt)
    (c.in_ok-prefix-2.prefix, c.in_ok-prefix-2.ensures.exact.found, c.in_err-max_len.ensures.found)))

pub returns-in_err-new : goal.returns-in_err-new
returns-in_err-new c =
    let cut = c.in-Some in
    let is = c.in_ok-prefix-2.ensures.exact.found in
    let both : ArePrefixAndMax _ _ _ _ = record { prefix_text = is; max_len_text = c.in_ok-max_len.ensures.found } in
    passed_on (ReadsMaxLen _) _ _ c.from_residual-in_err-new.ensures.1 (reads_max_len _ _
    (_, _, around_split 45 _ cut.prefix cut.max_len _ cut.ensures.cases (lit< tt) both, c.in_err-new.ensures))

pub returns : goal.returns
returns c =
    let cut = c.in-Some in
    let is = c.in_ok-prefix-2.ensures.exact.found in
    let both : ArePrefixAndMax _ _ _ _ = record { prefix_text = is; max_len_text = c.in_ok-max_len.ensures.found } in
    reads_max_len _ (Ok c.in_ok-new.field-0) (rw c.in_ok-new.ensures.0
    (around_split 45 _ cut.prefix cut.max_len _ cut.ensures.cases (lit< tt) both, c.in_ok-new.ensures.1))
