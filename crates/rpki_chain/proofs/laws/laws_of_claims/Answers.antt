use Rattle.rpki_chain.proofs.Common.{Holds}
use Rattle.rpki_chain.proofs.SetLawLemmas.{one_set}
use Rattle.rpki_chain.proofs.PathLaws.{path_of_one, refusal_of_one, trimmed_twice}
use Rattle.rpki_chain.proofs.laws.laws_of_claims.Goals as goal

pub returns : goal.returns
returns c = record {
  path_of_one = λ root issued claim mode. path_of_one (Holds root) claim mode issued;
  refusal_of_one = λ root excess claim mode. refusal_of_one (Holds root) claim mode excess;
  trimmed_alike = λ root issued trimmed claim h k. one_set _ _ trimmed issued k.runs h.runs (λ n. (λ x. x, λ x. x));
  trimmed_twice = trimmed_twice;
}
