use Rattle.rpki_chain.proofs.Common.{All-nil}
use Rattle.rpki_chain.proofs.SetLawLemmas.{one_set}
use Rattle.rpki_chain.proofs.PathLaws.{any_order, inside_issuer, not_trimmed}
use Rattle.rpki_chain.proofs.laws.laws_of_paths.Goals as goal

pub returns : goal.returns
returns c = record {
  inside_root = λ root set steps h n held. ((h.runs.members n).0 held).0;
  inside_each = λ root set steps h n held. ((h.runs.members n).0 held).1;
  inside_issuer = inside_issuer;
  trims = not_trimmed;
  empty = λ root set is h. one_set _ _ set root h.runs is (λ n. (λ both. both.0, λ held. (held, All-nil _)));
  any_order = any_order;
}
