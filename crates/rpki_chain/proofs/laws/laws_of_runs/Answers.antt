-- Blocks cover one list of runs, and sets with the same numbers are one list.
use Rattle.rpki_chain.proofs.SetLawLemmas.{one_set}
use Rattle.rpki_chain.proofs.RunLists.{IsRunsOf-unique}
use Rattle.rpki_chain.proofs.laws.laws_of_runs.Goals as goal

pub returns : goal.returns
returns g c = record {
  one_list = λ blocks. IsRunsOf-unique _;
  same_numbers = λ a b. one_set _ _ a b;
}
