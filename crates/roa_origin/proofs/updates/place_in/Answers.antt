-- The search parts the VRPs that come earlier from the others.
use Rattle.roa_origin.proofs.Common.{rules, sent_place}
use Rattle.roa_origin.proofs.SortedSearch.{searched_for}
use Rattle.roa_origin.proofs.SentVrps.{by_sent}
use Rattle.roa_origin.proofs.updates.place_in.Goals as goal

pub returns-clause-searched : goal.returns-clause-searched
returns-clause-searched c =
    searched_for c.partition_point.ensures.partitioned sent_place (sent_place c.args.vrp.now)
    (by_sent c.args.table.now c.requires.ranked) (λ a r q k. search rules)
