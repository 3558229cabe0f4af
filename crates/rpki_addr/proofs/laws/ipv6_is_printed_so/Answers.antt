-- The printed text is the one that is asked for.
use Rattle.rpki_addr.proofs.Common.{subst, sym, IsPrintedIpv6, ipv6_text}
use Rattle.rpki_addr.proofs.PrintedAddressLemmas.{IsPrintedIpv6-ipv6_text, IsPrintedIpv6-one}
use Rattle.rpki_addr.proofs.laws.ipv6_is_printed_so.Goals as goal

pub returns : goal.returns
returns c = λ n small text. (
  (λ h. IsPrintedIpv6-one n text (ipv6_text n) h (IsPrintedIpv6-ipv6_text n small)),
  λ is. subst (IsPrintedIpv6 n) (sym is) (IsPrintedIpv6-ipv6_text n small),
)
