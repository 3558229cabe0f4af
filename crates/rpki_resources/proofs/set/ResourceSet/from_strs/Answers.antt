use Rattle.rpki_resources.proofs.Common.{IsIpv6ListText, Asn, Ipv4, Ipv6}
use Rattle.rpki_resources.proofs.TripleTextLemmas.{all_read, asn_fault, ipv4_fault, ipv6_fault, parts_of, wants_memory}
use Rattle.rpki_resources.proofs.set.ResourceSet.from_strs.Goals as goal

pub returns-in-Err-clause-exact : goal.returns-in-Err-clause-exact
returns-in-Err-clause-exact g c =
    rw c.of_asn.ensures (asn_fault (IsIpv6ListText _) (parts_of _ _ _) _ c.in-Err.ensures.exact)

pub returns-in-Err-clause-reads_back : goal.returns-in-Err-clause-reads_back
returns-in-Err-clause-reads_back g c = λ set is of_asn of_ipv4 of_ipv6.
    rw c.of_asn.ensures (wants_memory Asn _ (c.in-Err.ensures.reads_back set.asn is.asn of_asn))

pub returns-in-Err-from_str-clause-exact : goal.returns-in-Err-from_str-clause-exact
returns-in-Err-from_str-clause-exact g c =
    let first = c.in-Ok.ensures.exact in
    rw c.of_ipv4.ensures (ipv4_fault (IsIpv6ListText _) (parts_of _ _ _) _ _ first c.in-Err-from_str.ensures.exact)

pub returns-in-Err-from_str-clause-reads_back : goal.returns-in-Err-from_str-clause-reads_back
returns-in-Err-from_str-clause-reads_back g c = λ set is of_asn of_ipv4 of_ipv6.
    rw c.of_ipv4.ensures (wants_memory Ipv4 _ (c.in-Err-from_str.ensures.reads_back set.ipv4 is.ipv4 of_ipv4))

pub returns-in-Ok-from_str-2-clause-exact : goal.returns-in-Ok-from_str-2-clause-exact
returns-in-Ok-from_str-2-clause-exact g c =
    let all = all_read _ (parts_of _ _ _) (λ t x y z. record { asn = x; ipv4 = y; ipv6 = z }) _ _ _ in
    rw c.new.ensures (all c.in-Ok.ensures.exact c.in-Ok-from_str.ensures.exact c.in-Ok-from_str-2.ensures.exact)

pub returns-in-Err-from_str-2-clause-exact : goal.returns-in-Err-from_str-2-clause-exact
returns-in-Err-from_str-2-clause-exact g c =
    let third = c.in-Err-from_str-2.ensures.exact in
    rw c.of_ipv6.ensures
    (ipv6_fault _ (parts_of _ _ _) _ _ _ c.in-Ok.ensures.exact c.in-Ok-from_str.ensures.exact third)

pub returns-in-Err-from_str-2-clause-reads_back : goal.returns-in-Err-from_str-2-clause-reads_back
returns-in-Err-from_str-2-clause-reads_back g c = λ set is of_asn of_ipv4 of_ipv6.
    rw c.of_ipv6.ensures (wants_memory Ipv6 _ (c.in-Err-from_str-2.ensures.reads_back set.ipv6 is.ipv6 of_ipv6))
