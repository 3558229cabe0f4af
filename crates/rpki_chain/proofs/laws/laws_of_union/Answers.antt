use Rattle.rpki_chain.proofs.Common.{arith}
use Rattle.rpki_chain.proofs.SetLawLemmas.{one_set}
use Rattle.rpki_chain.proofs.laws.laws_of_union.Goals as goal

pub returns : goal.returns
returns c = record {
  commutative = λ a b ab ba h k. one_set _ _ ab ba h k (λ n. grind arith);
  associative =
      λ a b c ab bc left right h l k r. one_set _ _ left right l r (λ n. grind (arith, h.members n, k.members n));
  idempotent = λ a set is h. one_set _ _ set a h is (λ n. grind arith);
}
