-- A validity is told by what it stands for.
use Rattle.roa_origin.proofs.Common.{IsPermutation-sym}
use Rattle.roa_origin.proofs.ValidityScans.{same_validity}
use Rattle.roa_origin.proofs.laws.laws_of_validities.Goals as goal

pub returns-clause-any_order : goal.returns-clause-any_order
returns-clause-any_order c route asn xs ys v moved =
    (same_validity route asn xs ys v moved, same_validity route asn ys xs v (IsPermutation-sym xs ys moved))
