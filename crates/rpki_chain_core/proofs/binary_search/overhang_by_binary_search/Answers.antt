-- Each turn seeks one block: it lies in what is found, or leaves the other chain.
use Rattle.rpki_chain_core.proofs.Common.{None, Some, arith, ◌∙◌, nat_tests, HoldsBlock}
use Rattle.rpki_chain_core.proofs.ReadCounts.{searched_within}
use Rattle.rpki_chain_core.proofs.OverhangWalk.{leaves, passed_all, passed_fit, passed_skip}
use Rattle.rpki_chain_core.proofs.binary_search.overhang_by_binary_search.Goals as goal

pub returns-in_default-clause-value : goal.returns-in_default-clause-value
returns-in_default-clause-value g c =
    let inv = c.loop-own_at.invariant in
    let read = c.read-min.ensures in
    let own : HoldsBlock g.T.Block.bounds g.T.Block.number _ (g.X.Reads.blocks c.args.own.now) _
    (Some c.read-min.result) = (omega arith, rw inv.own_kept at read.value, read.to_last) in
    let walk = passed_skip inv.walk g.T.Block.number _ _ own c.seek.new.at
    (rw inv.other_kept at c.in_default.ensures.passed) in
    leaves walk g.T.Block.number _ _ own None (rw inv.other_kept at c.in_default.ensures.block) _ read.from_first tt

pub returns-then-lt-clause-value : goal.returns-then-lt-clause-value
returns-then-lt-clause-value g c =
    let inv = c.loop-own_at.invariant in
    let read = c.read-min.ensures in
    let own : HoldsBlock g.T.Block.bounds g.T.Block.number _ (g.X.Reads.blocks c.args.own.now) _
    (Some c.read-min.result) = (omega arith, rw inv.own_kept at read.value, read.to_last) in
    let walk = passed_skip inv.walk g.T.Block.number _ _ own c.seek.new.at
    (rw inv.other_kept at c.in-Some.ensures.passed) in
    let order = g.met.T.Block.in_order in
    let same = g.met.T.Item.Ord.matches_partial_cmp in
    leaves walk g.T.Block.number _ _ own (Some c.in-Some.held) (rw inv.other_kept at c.in-Some.ensures.block) _
    read.from_first (grind (arith, nat_tests, order, same, c.then-lt.branch, c.in-Some.ensures.reaches))

pub loop-own_at-preserved : goal.loop-own_at-preserved
loop-own_at-preserved g c =
    let inv = c.loop-own_at.invariant in
    let read = c.read-min.ensures in
    let own : HoldsBlock g.T.Block.bounds g.T.Block.number _ (g.X.Reads.blocks c.args.own.now) _
    (Some c.read-min.result) = (omega arith, rw inv.own_kept at read.value, read.to_last) in
    let other = rw inv.other_kept at c.in-Some.ensures.block in
    let reads = rw inv.other_kept at c.in-Some.ensures.reads in
    let walk = passed_skip inv.walk g.T.Block.number _ _ own c.seek.new.at
    (rw inv.other_kept at c.in-Some.ensures.passed) in
    let order = g.met.T.Block.in_order in
    let same = g.met.T.Item.Ord.matches_partial_cmp in
    record {
      own_reads = omega arith;
      other_reads = λ digits fits. searched_within c.loop-own_at.own_at _ digits _ _ _ (omega arith)
          (inv.other_reads digits fits) (reads digits (omega arith));
      within = omega arith;
      walk = passed_fit walk g.T.Block.number _ _ own _ other
          (grind (arith, nat_tests, order, same, c.if-lt.ensures, c.if-lt-2.ensures));
      own_kept = read.kept ∙ inv.own_kept;
      other_kept = c.in-Some.ensures.kept ∙ inv.other_kept;
    }

pub returns-clause-value : goal.returns-clause-value
returns-clause-value g c = passed_all c.loop-own_at.invariant.walk (omega arith)
