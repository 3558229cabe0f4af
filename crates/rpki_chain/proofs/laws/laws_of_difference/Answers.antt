use Rattle.rpki_chain.proofs.Common.{arith}
use Rattle.rpki_chain.proofs.RunLists.{Holds-decided}
use Rattle.rpki_chain.proofs.SetLawLemmas.{one_set, inside_where_none}
use Rattle.rpki_chain.proofs.laws.laws_of_difference.Goals as goal

pub returns : goal.returns
returns c = record {
  disjoint = λ a b rest h n held also. ((h.members n).0 held).1 also;
  whole = λ a b rest common set is h k u.
      one_set _ _ set a u is (λ n. grind (arith, h.members n, k.members n, Holds-decided b n));
  inside = inside_where_none;
}
