-- Each part is what a claim leaves of the issuer's set. In IPv4 the addresses stay whole.
use Rattle.std.proofs.lemmas.Result.{err_from_is_err_and}
use Rattle.rpki_extensions.proofs.Common.{Holds}
use Rattle.rpki_extensions.proofs.IssuedSetLemmas.{excess_is_whole, issued_of, last_refused, left_is_whole}
use Rattle.rpki_chain.specs.Paths.{IsIssued}
use Rattle.rpki_extensions.proofs.issued.issued.Goals as goal

pub refused_as-requires-2 : goal.refused_as-requires-2
refused_as-requires-2 g c =
    excess_is_whole _ _ _ _ (rw c.ip_blocks.ensures.value c.ip_blocks.ensures.whole) c.requires
    c.verify_issued-2.ensures.found

pub from_ip_blocks-requires : goal.from_ip_blocks-requires
from_ip_blocks-requires g c =
    left_is_whole _ _ _ _ (rw c.ip_blocks.ensures.value c.ip_blocks.ensures.whole) c.requires
    (issued_of _ _ _ _ _ _ _ c.verify_issued-2.ensures.found c.in_ok-ipv4.ensures (λ value same. cc)
    (λ error never. never))

pub returns : goal.returns
returns g c =
    let asn : IsIssued (Holds c.args.issuer.now.asn) c.args.claims.now.asn c.args.mode c.in_ok-asn.asn =
    rw (← c.asn.ensures.value)
    (issued_of _ _ _ _ _ _ _ c.verify_issued.ensures.found c.in_ok-asn.ensures (λ value same. cc)
    (λ error never. never)) in
    let v4 : IsIssued (Holds c.args.issuer.now.ipv4) c.args.claims.now.ipv4 c.args.mode c.in_ok-ipv4.ipv4 =
    rw (← c.ipv4.ensures.value, ← c.ip_blocks.ensures.value)
    (issued_of _ _ _ _ _ _ _ c.verify_issued-2.ensures.found c.in_ok-ipv4.ensures (λ value same. cc)
    (λ error never. never)) in
    let v6 : IsIssued (Holds c.args.issuer.now.ipv6) c.args.claims.now.ipv6 c.args.mode c.in_ok-ipv6.ipv6 =
    rw (← c.ipv6.ensures.value, ← c.ip_blocks-2.ensures.value)
    (issued_of _ _ _ _ _ _ _ c.verify_issued-3.ensures.found c.in_ok-ipv6.ensures (λ value same. cc)
    (λ error never. never)) in
    rw (c.new.ensures, c.from_ip_blocks.ensures, c.from_ip_blocks-2.ensures)
    (record { asn = asn; of_families = (v4, v6) })

pub returns-in_err-ipv6 : goal.returns-in_err-ipv6
returns-in_err-ipv6 g c =
    let asn : IsIssued (Holds c.args.issuer.now.asn) c.args.claims.now.asn c.args.mode c.in_ok-asn.asn =
    rw (← c.asn.ensures.value)
    (issued_of _ _ _ _ _ _ _ c.verify_issued.ensures.found c.in_ok-asn.ensures (λ value same. cc)
    (λ error never. never)) in
    let v4 : IsIssued (Holds c.args.issuer.now.ipv4) c.args.claims.now.ipv4 c.args.mode c.in_ok-ipv4.ipv4 =
    rw (← c.ipv4.ensures.value, ← c.ip_blocks.ensures.value)
    (issued_of _ _ _ _ _ _ _ c.verify_issued-2.ensures.found c.in_ok-ipv4.ensures (λ value same. cc)
    (λ error never. never)) in
    let p = err_from_is_err_and c.from_residual-in_err-ipv6.result c.from_residual-in_err-ipv6.ensures.1 in
    rw (p.1, p.2)
    (last_refused c.args.issuer.now c.args.claims.now.asn c.args.claims.now.ipv4 c.args.claims.now.ipv6 c.args.mode
    c.in_ok-asn.asn c.in_ok-ipv4.ipv4 c.verify_issued-3.result c.in_err-ipv6.field-0.0 _ asn v4
    (rw (← c.ipv6.ensures.value, ← c.ip_blocks-2.ensures.value) c.verify_issued-3.ensures.found) c.in_err-ipv6.ensures
    (λ value never. cc))
