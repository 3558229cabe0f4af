use Rattle.rpki_as.proofs.Common.{as_list_text, refl}
use Rattle.rpki_as.proofs.AsListLemmas.{alike_as_numbers, list_says, one_list}
use Rattle.rpki_as.proofs.laws.printed_sets.Goals as goal

pub returns : goal.returns
returns c = record {
  written = λ set is. list_says _ set is refl;
  one_set = one_list;
  alike = λ a b is also. alike_as_numbers as_list_text a b is also
      (λ alike. one_list (as_list_text a) a b (list_says _ a is refl) (list_says _ b also alike));
}
