use Rattle.rpki_ipres.proofs.WholeClaims.{whole_excess, whole_issued, whole_refusal, whole_result, whole_uncovered}
use Rattle.rpki_ipres.proofs.laws.laws_of_whole_claims.Goals as goal

pub returns : goal.returns
returns c = record {
  issued = whole_issued;
  excess = whole_excess;
  uncovered = whole_uncovered;
  result = whole_result;
  refusal = whole_refusal;
}
