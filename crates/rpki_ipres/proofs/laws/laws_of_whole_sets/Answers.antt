use Rattle.rpki_ipres.proofs.WholeSets.{whole_union, whole_intersection, whole_difference}
use Rattle.rpki_ipres.proofs.laws.laws_of_whole_sets.Goals as goal

pub returns : goal.returns
returns c = record { union = whole_union; intersection = whole_intersection; difference = whole_difference }
