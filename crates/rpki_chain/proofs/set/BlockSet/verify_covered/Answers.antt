-- A missing claim covers the empty set, an inherited one each, and one that lists a set what lies in it.
use Rattle.rpki_chain.proofs.CoveredSets.{covered_missing, refused_listed}
use Rattle.rpki_chain.proofs.set.BlockSet.verify_covered.Goals as goal

pub returns-in-Missing-clause-ok : goal.returns-in-Missing-clause-ok
returns-in-Missing-clause-ok g c =
    rw c.in-Missing.is (covered_missing c.args.self.now _ c.none_left.ensures.runs c.none_left.ensures.ok)

pub returns-in-Blocks-clause-ok : goal.returns-in-Blocks-clause-ok
returns-in-Blocks-clause-ok g c = rw c.in-Blocks.is c.covered_by.ensures.ok

pub returns-in-Blocks-clause-refused : goal.returns-in-Blocks-clause-refused
returns-in-Blocks-clause-refused g c =
    let ensured = c.covered_by.ensures in
    rw c.in-Blocks.is (refused_listed c.args.self.now _ c.covered_by.result ensured.ok ensured.refused)
