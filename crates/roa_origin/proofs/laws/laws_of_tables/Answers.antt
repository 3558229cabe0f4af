-- VRPs in order have one order.
use Rattle.roa_origin.proofs.Common.{◌≡◌, Less, vrp_cmp}
use Rattle.roa_origin.proofs.ListMembers.{same_list}
use Rattle.roa_origin.proofs.VrpOrder.{not_back, total}
use Rattle.roa_origin.proofs.laws.laws_of_tables.Goals as goal

pub returns-clause-members : goal.returns-clause-members
returns-clause-members c = same_list (λ p q. vrp_cmp p q ≡ Less) (not_back total)

pub returns-clause-one : goal.returns-clause-one
returns-clause-one c vrps table other one two =
    returns-clause-members c table other one.ascending two.ascending
    (λ p. ((λ h. (two.members p).1 ((one.members p).0 h)), λ h. (one.members p).1 ((two.members p).0 h)))
