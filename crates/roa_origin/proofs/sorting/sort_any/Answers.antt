-- Sorted VRPs are in order.
use Rattle.roa_origin.proofs.Common.{rules, IsNonDecreasingBy-from_sort_by, table_place}
use Rattle.roa_origin.proofs.sorting.sort_any.Goals as goal

pub returns-clause-ordered : goal.returns-clause-ordered
returns-clause-ordered c =
    IsNonDecreasingBy-from_sort_by table_place _ c.sort_unstable_by.ensures.sorted (λ a r q k. search rules)
