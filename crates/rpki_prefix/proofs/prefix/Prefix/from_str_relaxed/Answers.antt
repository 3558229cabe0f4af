use Rattle.rpki_prefix.proofs.Common.{Ok, inl, inr, refl, IsRelaxedPrefixText}
use Rattle.rpki_text.specs.Reading.{Answers}
use Rattle.rpki_prefix.proofs.PrefixTextLemmas.{passed_on, reads_relaxed}
use Rattle.rpki_prefix.proofs.prefix.Prefix.from_str_relaxed.Goals as goal

pub returns-in_err-addr : goal.returns-in_err-addr
returns-in_err-addr c =
    passed_on (Answers (IsRelaxedPrefixText _) _) _ _ c.from_residual.ensures.1
    (reads_relaxed _ _ (inl c.in_err-addr.ensures))

pub returns-in_err-new_relaxed : goal.returns-in_err-new_relaxed
returns-in_err-new_relaxed c =
    passed_on (Answers (IsRelaxedPrefixText _) _) _ _ c.from_residual-in_err-new_relaxed.ensures.1
    (reads_relaxed _ _ (inr (_, _, _, c.in_ok-addr.ensures, c.in_err-new_relaxed.ensures, refl)))

pub returns : goal.returns
returns c =
    let parts = c.in_ok-addr.ensures in
    reads_relaxed _ (Ok _) (record { addr = _; len = _; parts = parts; prefix = c.in_ok-new_relaxed.ensures })
