use Rattle.rpki_ip.proofs.Common.{◌*◌, ◌^◌, err_from_is_err_and, IsIpv4Text}
use Rattle.rpki_ip.proofs.AddrTextLemmas.{first_of_ok, first_of_err}
use Rattle.rpki_ip.proofs.addr.Addr.from_v4_str.Goals as goal

pub returns-in_err-from_str : goal.returns-in_err-from_str
returns-in_err-from_str c =
    let p = err_from_is_err_and c.from_residual.result c.from_residual.ensures.1 in
    rw (p.1, p.2) (first_of_err (λ n. n * 2 ^ 96) (IsIpv4Text c.args.text.now) _ _ c.in_err-from_str.ensures.exact)

pub returns : goal.returns
returns c =
    rw c.from_v4.ensures (first_of_ok (λ n. n * 2 ^ 96) (IsIpv4Text c.args.text.now) _ _ c.in_ok-from_str.ensures.exact)
