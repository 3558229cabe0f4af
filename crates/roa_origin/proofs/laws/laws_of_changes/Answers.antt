-- What is left and what is announced are the VRPs of the next table.
use Rattle.roa_origin.proofs.Common.{◌≡◌, Less, vrp_cmp}
use Rattle.roa_origin.proofs.SortedLists.{decide, nothing, only_next}
use Rattle.roa_origin.proofs.ListMembers.{same_list}
use Rattle.roa_origin.proofs.VrpOrder.{not_back, ties, total}
use Rattle.roa_origin.proofs.laws.laws_of_changes.Goals as goal

pub returns-clause-leads : goal.returns-clause-leads
returns-clause-leads c table next announced withdrawn set ascends new gone after =
    let cases = decide vrp_cmp total ties in
    same_list (λ p q. vrp_cmp p q ≡ Less) (not_back total) set next after.ascending ascends
    (λ p. only_next (cases table p) (cases next p) (new.members p) (gone.members p) (after.members p))

pub returns-clause-none : goal.returns-clause-none
returns-clause-none c table left is = nothing left (λ p h. ((is.members p).0 h).1 ((is.members p).0 h).0)
