-- Sorted changes are in order.
use Rattle.roa_origin.proofs.Common.{rules, All-permutation, IsNonDecreasingBy-from_sort_by, IsLawfulChange}
use Rattle.roa_origin.proofs.Common.{change_place}
use Rattle.roa_origin.proofs.updates.sort_changes.Goals as goal

pub returns-clause-in_order : goal.returns-clause-in_order
returns-clause-in_order g c =
    let xs = c.sort_unstable_by.new.self.items in
    let is = c.sort_unstable_by.ensures in record {
      lawful = All-permutation IsLawfulChange c.args.changes.now.items xs is.permutation c.requires;
      ordered = IsNonDecreasingBy-from_sort_by change_place xs is.sorted (λ a r q k. search rules);
    }
