use Rattle.rpki_prefix.proofs.Common.{Ok, inl, inr, refl, ReadsPrefix}
use Rattle.rpki_prefix.proofs.PrefixTextLemmas.{passed_on, reads_prefix}
use Rattle.rpki_prefix.proofs.text.PrefixFromStr.from_str.Goals as goal

pub returns-in_err-addr : goal.returns-in_err-addr
returns-in_err-addr c =
    passed_on (ReadsPrefix _) _ _ c.from_residual.ensures.1 (reads_prefix _ _ (inl c.in_err-addr.ensures))

pub returns-in_err-new : goal.returns-in_err-new
returns-in_err-new c =
    passed_on (ReadsPrefix _) _ _ c.from_residual-in_err-new.ensures.1
    (reads_prefix _ _ (inr (_, _, _, c.in_ok-addr.ensures, c.in_err-new.ensures, refl)))

pub returns : goal.returns
returns c =
    reads_prefix _ (Ok _) (record { addr = _; len = _; parts = c.in_ok-addr.ensures; prefix = c.in_ok-new.ensures })
