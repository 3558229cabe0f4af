-- The search parts the changes of VRPs that come earlier from the others.
use Rattle.roa_origin.proofs.Common.{rules, sent_place, sent_change}
use Rattle.roa_origin.proofs.SortedSearch.{searched_for}
use Rattle.roa_origin.proofs.ChangesAsListed.{by_vrp}
use Rattle.roa_origin.proofs.updates.place_of.Goals as goal

pub returns-clause-searched : goal.returns-clause-searched
returns-clause-searched c =
    searched_for c.partition_point.ensures.partitioned sent_change (sent_place c.args.vrp.now)
    (by_vrp c.args.changes.now c.requires) (λ a r q k. search rules)
