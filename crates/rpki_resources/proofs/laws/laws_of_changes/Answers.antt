use Rattle.rpki_resources.proofs.Common.{subst, sym, Changes}
use Rattle.rpki_resources.specs.Triples.{AreChanges}
use Rattle.rpki_resources.proofs.ChangeLemmas.{restored, one_difference, same_where_none, none_where_same}
use Rattle.rpki_resources.proofs.laws.laws_of_changes.Goals as goal

pub returns-clause-restores : goal.returns-clause-restores
returns-clause-restores c = λ a b d kept set is h left u. λ i. record {
  asn = restored a.asn b.asn _ _ _ _ is.asn.are_runs h.added.asn h.removed.asn left.asn u.asn i;
  ipv4 = restored a.ipv4 b.ipv4 _ _ _ _ is.ipv4.0.are_runs h.added.ipv4 h.removed.ipv4 left.ipv4 u.ipv4 i;
  ipv6 = restored a.ipv6 b.ipv6 _ _ _ _ is.ipv6.are_runs h.added.ipv6 h.removed.ipv6 left.ipv6 u.ipv6 i;
}

pub returns-clause-exchanged : goal.returns-clause-exchanged
returns-clause-exchanged c = λ a b d e h k. λ i. record {
  added = one_difference b a e.added d.removed k.added h.removed i;
  removed = one_difference a b e.removed d.added k.removed h.added i;
}

pub returns-clause-none : goal.returns-clause-none
returns-clause-none c = λ a b d is also h. (
  λ none.
      let same = subst (λ (e : Changes). AreChanges a b e) none h in
      λ i. record {
        asn = same_where_none _ _ is.asn.are_runs also.asn.are_runs same.added.asn same.removed.asn i;
        ipv4 = same_where_none _ _ is.ipv4.0.are_runs also.ipv4.0.are_runs same.added.ipv4 same.removed.ipv4 i;
        ipv6 = same_where_none _ _ is.ipv6.are_runs also.ipv6.are_runs same.added.ipv6 same.removed.ipv6 i;
      },
  λ same. λ i. record {
    added = none_where_same a b d.added h.added same i;
    removed = none_where_same b a d.removed h.removed (sym same) i;
  },
)
